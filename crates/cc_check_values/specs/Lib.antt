pub mod Typed
pub mod Lengths
pub mod Statics
pub mod Scalars
pub mod Shaping
