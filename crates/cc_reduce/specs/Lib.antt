pub mod Laws
pub mod Ordered
pub mod Reduced
pub mod Rows
pub mod Texts
