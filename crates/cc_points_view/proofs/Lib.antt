pub mod Beginning
pub mod Withins
