pub mod Exploration
pub mod Lists
pub mod Marks
pub mod Paths
pub mod Rows
