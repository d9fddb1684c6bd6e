pub mod OperationLaws
pub mod Demands
pub mod AddLaws
pub mod DemandOne
