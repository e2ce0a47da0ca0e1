pub mod Compare
pub mod Models
pub mod Promises
