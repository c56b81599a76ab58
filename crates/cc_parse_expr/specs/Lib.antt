pub mod Branches
pub mod Modes
pub mod Nests
pub mod Parts
