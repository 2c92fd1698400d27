pub mod Boxes
pub mod Handles
pub mod Travels
pub mod Told
