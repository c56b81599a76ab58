pub mod Truth
pub mod Reaching
pub mod Wiping
pub mod Rowing
pub mod Law
