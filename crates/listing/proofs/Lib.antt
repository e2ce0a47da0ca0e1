pub mod Puts
pub mod Steps
pub mod Blocks
pub mod Whole
pub mod Holding
