pub mod Why
pub mod Rungs
