pub mod Trees
pub mod Views
pub mod Depth
pub mod Nodes
pub mod Renoted
pub mod Types
