pub mod Printed
pub mod Elaboration
pub mod Outline
pub mod Places
pub mod OutlineSites
pub mod Told
pub mod Mistakes
pub mod Owned
