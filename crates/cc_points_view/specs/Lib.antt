pub mod Standings
pub mod Seeing
pub mod Functions
pub mod Paths
pub mod Initialisers
pub mod Views
pub mod Within
