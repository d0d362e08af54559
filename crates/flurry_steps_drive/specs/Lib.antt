pub mod IsExclusive
pub mod Exact
