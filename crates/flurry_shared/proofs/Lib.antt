pub mod Crossing
pub mod PlacingLemmas
