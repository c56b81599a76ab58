pub mod Found
pub mod Least
pub mod Mark
pub mod More
pub mod Search
