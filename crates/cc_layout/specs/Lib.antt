pub mod Sizes
pub mod Conversions
pub mod Values
pub mod Functions
pub mod Operators
pub mod Targets
