pub mod Does
pub mod Cells
pub mod Living
