pub mod Compared
pub mod Tested
pub mod AllCases
