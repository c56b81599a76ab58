pub mod Sweeping
pub mod Masks
pub mod Flows
