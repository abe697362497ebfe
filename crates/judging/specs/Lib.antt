pub mod Passes
pub mod Judges
