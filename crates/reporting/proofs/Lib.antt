pub mod Lengths
pub mod Reported
pub mod Examples
