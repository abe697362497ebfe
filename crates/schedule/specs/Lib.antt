pub mod Curves
pub mod Ticks
pub mod Examples
