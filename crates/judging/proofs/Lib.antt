pub mod PassedWindows
pub mod JobsAhead
pub mod Instants
pub mod ShortPeriods
pub mod Asked
