pub mod Clock
pub mod Range
pub mod ClockLaws
pub mod Places
pub mod Moves
pub mod Steps
pub mod Vectors
