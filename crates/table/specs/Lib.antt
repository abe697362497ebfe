pub mod Rules
pub mod Euclid
pub mod Span
pub mod Multiples
pub mod Places
pub mod Releases
