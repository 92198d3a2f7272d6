pub mod Living
pub mod Families
pub mod Pairs
pub mod Boundary
pub mod Frames
pub mod Census
