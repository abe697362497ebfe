pub mod Texts
pub mod Numbers
pub mod OneOutcome
pub mod ReadWritten
