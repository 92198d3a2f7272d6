pub mod Grounds
pub mod Outcomes
pub mod Numbers
pub mod Word
pub mod Givens
pub mod Order
