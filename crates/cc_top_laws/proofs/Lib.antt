pub mod OneAnswer
pub mod OneListing
