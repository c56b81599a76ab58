pub mod Judgements
pub mod Operators
pub mod Postfix
pub mod Typing
pub mod Findings
pub mod Laws
