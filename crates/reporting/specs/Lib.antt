pub mod Reporting
pub mod Examples
