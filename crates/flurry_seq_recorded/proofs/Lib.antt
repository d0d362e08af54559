pub mod Crossing
pub mod HistoryLaws
pub mod MarkLemmas
pub mod PlaceLemmas
pub mod ShareLemmas
