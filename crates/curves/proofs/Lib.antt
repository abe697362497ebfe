pub mod Outcomes
pub mod Fronts
pub mod Rooms
