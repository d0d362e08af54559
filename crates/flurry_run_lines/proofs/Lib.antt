pub mod Numbers
pub mod Results
pub mod RunLemmas
pub mod ScheduleLemmas
