pub mod Changes
pub mod Runs
pub mod Theorems
pub mod Crews
