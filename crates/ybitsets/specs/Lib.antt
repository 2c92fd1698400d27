pub mod Limits
pub mod Marks
pub mod Rows
pub mod Packed
pub mod Links
pub mod Order
pub mod Spread
pub mod Waiting
