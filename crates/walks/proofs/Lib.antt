pub mod Fronts
pub mod Buffers
pub mod Sums
pub mod Pieces
