pub mod Edit
pub mod Models
pub mod Promises
