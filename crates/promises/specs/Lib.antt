pub mod Promises
pub mod Freed
pub mod Runs
pub mod Bars
pub mod Lists
pub mod Comparing
