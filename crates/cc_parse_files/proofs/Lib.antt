pub mod Clauses
pub mod Externals
pub mod ExternalRounds
pub mod FirstTokens
pub mod InitRounds
pub mod ItemRounds
pub mod Opened
