pub mod Lines
pub mod Text
pub mod Report
pub mod Making
