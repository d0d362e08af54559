pub mod Placing
-- Words for callers: what a call over the locks can return, and what a walk reads.
pub use Rattle.flurry_base.specs.Hashing
pub use Rattle.flurry_base.specs.Texts
pub use Rattle.flurry_base.specs.Verdicts
pub use Rattle.flurry_base.specs.declared.call.Call.TheVariants as Call
pub use Rattle.flurry_shared_replies.specs.Answers
pub use Rattle.flurry_shared_view.specs.Alterations
pub use Rattle.flurry_shared_view.specs.Insertions
pub use Rattle.flurry_shared_view.specs.SharedAnswers
pub use Rattle.flurry_shared_view.specs.Visits
pub use Rattle.flurry_shared_view.specs.Walks
