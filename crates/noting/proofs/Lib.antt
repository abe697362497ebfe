pub mod Noting
pub mod Answering
