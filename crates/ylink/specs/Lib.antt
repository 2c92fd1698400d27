pub mod Buffered
pub mod Link
pub mod Pieces
pub mod Sends
