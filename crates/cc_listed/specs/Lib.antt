pub mod Tabled
pub mod Stretches
pub mod Listed
pub mod CallsListed
