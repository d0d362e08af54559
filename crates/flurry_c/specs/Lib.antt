pub mod ByteAnswers
pub mod ByteSetAnswers
pub mod Presence
pub mod WordAnswers
pub mod WordSetAnswers
pub use Rattle.flurry_c_base.specs.FiniteMap
pub use Rattle.flurry_c_base.specs.FiniteSet
