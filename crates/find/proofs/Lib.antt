pub mod Steps
pub mod Probing
pub mod Erasing
pub mod Finding
pub mod Contents
pub mod Searched
