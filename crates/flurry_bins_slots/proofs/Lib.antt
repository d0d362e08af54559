pub mod Crossing
pub mod LiveLaws
pub mod SlotLaws
