pub mod Numbers
pub mod Order
pub mod Parts
pub mod Steps
pub mod Whole
