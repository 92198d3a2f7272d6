pub mod Contents
pub mod Steps
pub mod Bodies
pub mod Answers
