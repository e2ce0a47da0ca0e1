pub mod Reading
pub mod Editing
pub mod Entering
pub mod Comparing
