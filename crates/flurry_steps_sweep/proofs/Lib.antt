pub mod FrameLaws
pub mod Cursors
pub mod Sweeps
