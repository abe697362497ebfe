pub mod Rows
pub mod Accepted
pub mod Feeds
pub mod LineCounts
pub mod TurnedAway
pub mod Examples
