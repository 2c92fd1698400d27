pub mod Lines
pub mod Otherwise
pub mod Plain
pub mod Replying
pub mod Transcripts
pub mod Histories
pub mod Spelled
