pub mod Sums
pub mod Incidence
pub mod Boundary
pub mod Steps
