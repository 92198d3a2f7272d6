pub mod SemiSimplicial
pub mod View
pub mod Cells
