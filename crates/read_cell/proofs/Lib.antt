pub mod Ends
pub mod Walk
pub mod Cube
pub mod Calls
pub mod Plain
pub mod Laws
pub mod Meaning
pub mod Sample
