pub mod Blend
pub mod Cases
pub mod Iff
pub mod Over
pub mod Paste
pub mod Rest
pub mod Flags
