pub mod Running
pub mod Sources
pub mod Written
pub mod Required
pub mod Words
