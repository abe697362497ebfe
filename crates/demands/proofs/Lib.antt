pub mod Releases
pub mod Openings
pub mod Cutoffs
pub mod Additions
pub mod Sums
