pub mod Windows
pub mod Servers
pub mod Walks
pub mod Examples
