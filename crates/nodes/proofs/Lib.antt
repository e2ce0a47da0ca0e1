pub mod Sums
pub mod Rows
pub mod Counts
pub mod Access
pub mod Answers
pub mod Freeing
pub mod Frame
pub mod Local
