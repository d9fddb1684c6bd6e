pub mod Operations
pub mod Accounts
