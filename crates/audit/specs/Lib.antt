pub mod Audit
pub mod First
pub mod Empty
