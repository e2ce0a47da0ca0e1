-- Definitions, to be checked against document 01 by eye.
pub mod Tree
pub mod Cells
pub mod Anew
pub mod Edits
pub mod Lacks
pub mod Room
