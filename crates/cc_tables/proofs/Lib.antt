pub mod Done
pub mod More
pub mod Put
