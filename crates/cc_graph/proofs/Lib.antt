pub mod Gains
pub mod Lowering
pub mod PointNames
pub mod Ordering
