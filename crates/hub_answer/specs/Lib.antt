pub mod Asks
pub mod AsksLaws
