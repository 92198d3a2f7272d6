pub mod Text
pub mod Sorting
pub mod Cells
pub mod Indices
pub mod ListTable
pub mod Sweep
pub mod Described
