pub mod Slots
pub mod Checking
pub mod Deciding
