pub mod Words
pub mod Tally
pub mod Values
pub mod Lent
