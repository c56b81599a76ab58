pub mod Cells
pub mod Fills
pub mod Progress
