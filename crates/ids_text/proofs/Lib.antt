pub mod Texts
pub mod Deciding
pub mod Showing
