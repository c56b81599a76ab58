pub mod Numbering
pub mod Files
