pub mod Values
pub mod OperatorsMean
pub mod PostfixMean
pub mod TypingMeans
pub mod NotedFindings
pub mod FirstOffences
