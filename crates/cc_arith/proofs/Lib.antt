pub mod Remainders
pub mod ConversionLaws
pub mod DivisionSteps
pub mod Shifts
pub mod BitLaws
pub mod ResultLaws
