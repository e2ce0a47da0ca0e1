pub mod Rungs
pub mod Puts
pub mod Ladder
pub mod Refusals
