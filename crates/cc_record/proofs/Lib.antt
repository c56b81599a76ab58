pub mod AskedFacts
pub mod SlotLaws
pub mod EventSteps
pub mod Enters
pub mod Moves
