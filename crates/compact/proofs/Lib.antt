pub mod Numbers
pub mod Faces
pub mod Swaps
pub mod Settling
pub mod Whole
