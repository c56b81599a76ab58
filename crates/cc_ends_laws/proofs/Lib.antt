pub mod Holding
pub mod Parts
pub mod Steps
pub mod Whole
