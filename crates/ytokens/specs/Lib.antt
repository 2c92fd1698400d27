pub mod Symbols
pub mod Tokens
pub mod TokensFile
pub mod Reading
