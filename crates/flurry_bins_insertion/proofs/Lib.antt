pub mod LongLists
