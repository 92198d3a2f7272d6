pub mod Sums
pub mod Fewer
pub mod RowCeiling
pub mod Total
pub mod Torus
