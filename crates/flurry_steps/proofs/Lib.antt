mod AtLiveBin
pub mod Acts
pub mod Boards
pub mod Decisions
pub mod Events
pub mod Moves
pub mod Rooms
pub mod Singles
pub mod ClosureLaws
