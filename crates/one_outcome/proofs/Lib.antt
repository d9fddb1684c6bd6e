pub mod Tells
pub mod GraphFunctions
pub mod WaitingFunctions
