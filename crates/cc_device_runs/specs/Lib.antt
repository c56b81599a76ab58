pub mod Roles
pub mod Asking
pub mod Tabling
pub mod Listed
pub mod Exercised
pub mod Texts
pub mod Reports
