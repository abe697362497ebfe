pub mod Parted
pub mod Lengths
pub mod Spoken
pub mod Again
pub mod Written
pub mod Writes
pub mod Puts
pub mod Examples
