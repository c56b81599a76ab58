pub mod Calls
pub mod Compose
pub mod Fills
pub mod Reach
pub mod Whole
