pub mod Compaction
pub mod Made
pub mod Call
