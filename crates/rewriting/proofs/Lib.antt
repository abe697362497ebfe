pub mod Rewritten
pub mod Examples
