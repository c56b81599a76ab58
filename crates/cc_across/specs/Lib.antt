pub mod Pairs
pub mod Sites
pub mod Calling
pub mod Reaching
pub mod Stepping
pub mod Crossing
