pub mod Bytes
pub mod Library
pub mod Splits
pub mod Pieces
