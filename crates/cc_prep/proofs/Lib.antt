pub mod LineFacts
pub mod SpotFacts
pub mod StopFacts
pub mod PassageFacts
pub mod MacroFacts
pub mod FileFacts
