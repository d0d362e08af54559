pub mod AtomicSteps
pub mod BoardRule
pub mod ClaimBoard
pub mod Helper
pub mod PlainBoard
pub mod Range
pub mod SeatNotes
