pub mod Changes
pub mod Runs
pub mod Kinds
