pub mod Clocks
pub mod ClocksLaws
