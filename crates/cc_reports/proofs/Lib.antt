pub mod Ascending
pub mod Ordered
pub mod Short
pub mod Stopped
