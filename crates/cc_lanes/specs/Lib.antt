pub mod Rows
pub mod Lanes
pub mod Spreading
pub mod Connections
pub mod Picking
pub mod Joins
