pub mod Kind
pub mod Table
pub mod Records
