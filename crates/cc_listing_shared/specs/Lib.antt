pub mod Living
pub mod Cutting
pub mod SharedRows
