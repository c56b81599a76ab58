pub mod ActivationFacts
pub mod ActivationMap
pub mod CellFacts
pub mod CellMap
pub mod KeyFacts
pub mod OpenFacts
