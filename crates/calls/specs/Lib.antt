pub mod Numbers
pub mod Packed
pub mod Calls
pub mod Order
