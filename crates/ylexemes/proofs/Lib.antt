pub mod Runs
pub mod Gaps
pub mod Literals
pub mod KeptTexts
pub mod Parts
pub mod Made
pub mod Fronts
