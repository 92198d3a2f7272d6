pub mod Growing
pub mod Accepted
pub mod Telling
pub mod OneReport
