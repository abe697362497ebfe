pub mod Rooms
pub mod Steps
