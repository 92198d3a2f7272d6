pub mod Sessions
pub mod Files
pub mod Lists
