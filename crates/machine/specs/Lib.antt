pub mod Machine
pub mod Run
pub mod Parts
pub mod Examples
