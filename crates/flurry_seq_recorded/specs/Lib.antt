pub mod Books
pub mod Closing
pub mod Faults
pub mod Histories
pub mod Marks
pub mod Shares
pub use Rattle.flurry_base.specs.FiniteMap
pub use Rattle.flurry_base.specs.OneKey
