pub mod Faults
pub mod Found
pub mod Reports
pub mod Texts
