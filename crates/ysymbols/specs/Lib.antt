pub mod Derivation
pub mod Forms
pub mod Grammar
pub mod WellFormed
pub mod Names
pub mod NameTexts
pub mod Marking
pub mod Sources
