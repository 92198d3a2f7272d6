pub mod Numbers
pub mod LineReads
pub mod Counts
pub mod Fits
pub mod Wholes
pub mod Decision
