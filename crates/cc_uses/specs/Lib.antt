pub mod Peeling
pub mod Tabling
pub mod Putting
pub mod Accessing
pub mod Writing
pub mod Reading
pub mod Giving
pub mod Uses
