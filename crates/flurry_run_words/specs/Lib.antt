pub mod Arguments
pub mod Threads
pub use Rattle.flurry_run_lines.specs.Endings
pub use Rattle.flurry_run_lines.specs.Runs
pub use Rattle.flurry_run_lines.specs.ScheduleRuns
pub use Rattle.flurry_run_lines.specs.SeqReplies
