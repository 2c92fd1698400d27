pub mod Sources
pub mod Written
pub mod Messages
pub mod Programs
pub mod Generating
pub mod Arguments
