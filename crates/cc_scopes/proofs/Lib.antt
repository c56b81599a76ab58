pub mod Insertions
pub mod Bindings
pub mod Blocks
pub mod Trails
