pub mod Told
pub mod Operations
