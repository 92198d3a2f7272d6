-- The definitions of a weld.
pub mod Weld
pub mod Joins
pub mod Maps
pub mod Merges
pub mod Call
