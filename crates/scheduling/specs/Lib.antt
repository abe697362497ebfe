pub mod Buffers
pub mod Asking
pub mod Analysing
pub mod Working
