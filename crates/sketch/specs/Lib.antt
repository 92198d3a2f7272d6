pub mod Form
pub mod Written
pub mod Read
