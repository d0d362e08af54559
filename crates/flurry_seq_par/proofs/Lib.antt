pub mod Elements
pub mod Fronts
pub mod Joining
pub mod Rooms
