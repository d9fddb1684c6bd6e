pub mod Shapes
pub mod WaitingShapes
pub mod ClockFunctions
