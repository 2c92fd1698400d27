pub mod Bytes
pub mod Lexemes
pub mod Front
pub mod Stages
pub mod Kept
pub mod Views
