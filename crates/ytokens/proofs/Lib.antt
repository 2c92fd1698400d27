pub mod OneOutcome
pub mod OneToken
