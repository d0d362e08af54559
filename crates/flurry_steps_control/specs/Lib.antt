pub mod Claim
pub mod Control
