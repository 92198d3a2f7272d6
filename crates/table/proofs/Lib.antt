pub mod Records
pub mod Sizes
pub mod Places
pub mod Words
pub mod Empties
pub mod Stores
pub mod Dimensions
pub mod Slices
