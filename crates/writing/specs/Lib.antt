pub mod Text
pub mod Writing
pub mod Lengths
pub mod Examples
