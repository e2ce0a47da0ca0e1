pub mod Paint
pub mod Blocks
pub mod Fill
pub mod Grow
pub mod Parts
pub mod Whole
pub mod Calls
