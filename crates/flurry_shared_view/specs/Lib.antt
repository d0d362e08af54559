pub mod SharedAnswers
pub mod Walks
pub mod Visits
pub mod Insertions
pub mod Alterations
