pub mod CloneLaws
pub mod DoubleLaws
pub mod SortedLaws
