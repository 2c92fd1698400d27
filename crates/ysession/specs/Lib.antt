pub mod Session
pub mod Unwound
pub mod Verdict
pub mod Sentences
pub mod States
pub mod Judge
pub mod Expected
