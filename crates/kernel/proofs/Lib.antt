pub mod Telling
pub mod Outcomes
pub mod Meaning
pub mod Lowest
pub mod Breaches
