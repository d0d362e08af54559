pub mod Interner
