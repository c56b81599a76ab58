pub mod Points
pub mod First
pub mod Laws
