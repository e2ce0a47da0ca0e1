pub mod Ladders
pub mod Passes
pub mod Freed
