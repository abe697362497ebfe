pub mod Stretches
pub mod Pieces
pub mod Fittings
