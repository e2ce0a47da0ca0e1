pub mod Bits
pub mod Record
pub mod Why
pub mod Models
