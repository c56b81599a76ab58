pub mod Edges
pub mod Paths
pub mod Search
pub mod Spots
