pub mod Cells
pub mod Holes
pub mod Evidence
