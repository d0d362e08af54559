pub mod Map
pub mod Trace
pub mod Legal
pub mod Bin
pub mod Machine
pub mod Invariant
pub mod OneKeyCalls
