pub mod Enter
pub mod Stops
pub mod Models
