pub mod Kinds
pub mod Promotions
pub mod Conversions
pub mod Bits
pub mod Operators
pub mod Laws
