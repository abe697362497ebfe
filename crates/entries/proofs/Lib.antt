pub mod Rows
pub mod Filled
pub mod Entries
pub mod Examples
