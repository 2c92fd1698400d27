pub mod Answers
pub mod Expected
pub mod Handles
pub mod Moves
pub mod Stands
pub mod Texts
pub mod Travel
