pub mod Picture
pub mod ReaderState
