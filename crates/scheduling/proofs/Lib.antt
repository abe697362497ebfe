pub mod Openings
pub mod Answered
pub mod Outcomes
pub mod Analyses
