pub mod Pasting
pub mod Parts
pub mod Filling
pub mod Starts
pub mod Answers
