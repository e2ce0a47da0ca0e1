pub mod Bits
pub mod Laws
pub mod Masks
pub mod Coords
pub mod Calls
