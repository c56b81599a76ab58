pub mod Calls
pub mod Shelves
pub mod Sinks
