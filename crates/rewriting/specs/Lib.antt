pub mod Rewriting
pub mod Examples
