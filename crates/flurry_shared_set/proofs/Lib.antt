pub mod Crossing
pub mod ElementLaws
