pub mod Cone
pub mod Parts
