pub mod Acceptance
pub mod GivenNumbers
pub mod Searches
pub mod Numbering
pub mod Sides
pub mod Building
pub mod Turns
pub mod Refusals
