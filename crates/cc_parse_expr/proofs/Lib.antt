pub mod Beginnings
pub mod Climbing
pub mod Counting
pub mod EnclosedLoops
pub mod InnerReaders
pub mod ListLoops
pub mod SpecClasses
pub mod Suffixes
