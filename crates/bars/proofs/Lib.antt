pub mod Ways
pub mod Steps
pub mod Does
pub mod Granting
pub mod Theorems
pub mod Drawing
pub mod Numbers
pub mod Orders
