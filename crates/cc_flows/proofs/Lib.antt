pub mod Dirty
pub mod Passing
pub mod Lists
pub mod Masking
pub mod Gaining
pub mod Flowing
