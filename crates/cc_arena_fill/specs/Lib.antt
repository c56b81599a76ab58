pub mod Numbers
pub mod Filling
pub mod Definitions
pub mod Holding
