pub mod Aboves
pub mod Cells
pub mod Layouts
pub mod Removes
