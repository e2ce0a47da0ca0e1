pub mod Aims
pub mod Law
pub mod Stops
pub mod Does
pub mod Theorems
