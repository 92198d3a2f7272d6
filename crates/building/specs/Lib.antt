pub mod ConeRule
pub mod Runs
