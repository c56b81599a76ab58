pub mod OneCut
pub mod OneUnit
pub mod Forms
