pub mod Digits
pub mod Marks
pub mod LowBit
pub mod LargestMember
pub mod Words
pub mod Adding
pub mod Inclusion
pub mod RowLaws
