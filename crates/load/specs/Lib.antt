pub mod Load
pub mod LoadLaws
pub mod DoneLaws
pub mod Accepted
pub mod Loaded
pub mod Vectors
