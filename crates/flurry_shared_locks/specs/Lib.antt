pub mod LockLoans
pub mod WalkSteps
