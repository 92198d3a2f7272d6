pub mod Sheet
pub mod OldSheet
pub mod Sides
