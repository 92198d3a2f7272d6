pub mod Ceiling
