pub mod DeclarationDisorders
pub mod Disorders
pub mod Examples
pub mod Limits
pub mod Places
pub mod Shapes
pub mod Texts
pub mod WholeTrees
