pub mod Judged
pub mod Grounds
pub mod Words
pub mod Texts
pub mod Places
pub mod Examples
