pub mod Content
pub mod Cells
