pub mod Codes
pub mod Memory
pub mod Refusals
pub mod Sessions
pub mod Texts
pub mod Verdicts
pub mod Faults
pub mod Handles
