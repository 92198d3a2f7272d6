pub mod Check
pub mod Row
pub mod Fault
