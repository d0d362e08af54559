pub mod Crossing
pub mod WalkLaws
pub mod VisitLaws
