pub mod Fields
pub mod Packing
