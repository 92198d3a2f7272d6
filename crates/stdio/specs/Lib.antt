pub mod Read
pub mod Answer
