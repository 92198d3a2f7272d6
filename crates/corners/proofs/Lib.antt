pub mod Comparing
pub mod Searching
pub mod Holding
pub mod LineCorners
pub mod Removing
