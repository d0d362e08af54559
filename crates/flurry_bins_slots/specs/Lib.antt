pub mod ComputeFn
pub mod LiveView
pub mod Slot
pub mod SlotView
