pub mod Blocks
pub mod Laying
pub mod Steps
