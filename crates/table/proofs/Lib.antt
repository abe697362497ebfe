pub mod Divisors
pub mod Entries
pub mod Spans
pub mod Differences
pub mod Places
pub mod Obeyed
