pub mod Firsts
pub mod KeyTexts
pub mod Rounds
pub mod Sizes
