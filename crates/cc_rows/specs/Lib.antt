pub mod Gains
pub mod Limits
pub mod Order
