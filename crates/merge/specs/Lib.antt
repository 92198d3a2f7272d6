-- The definitions of a merge.
pub mod Rename
pub mod Merge
pub mod Writing
