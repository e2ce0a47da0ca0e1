pub mod Differing
pub mod Models
