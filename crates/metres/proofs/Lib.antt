pub mod Laws
pub mod Product
pub mod Order
pub mod Parsing
pub mod Aiming
pub mod Numbers
pub mod Theorems
