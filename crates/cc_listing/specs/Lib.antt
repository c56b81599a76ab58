pub mod Stepping
pub mod Sites
pub mod Couplings
pub mod Callings
pub mod Gathered
pub mod Listing
pub mod Answers
pub mod Faults
