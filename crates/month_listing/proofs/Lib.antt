pub mod Lines
pub mod Differing
pub mod Records
pub mod Whole
pub mod Holding
