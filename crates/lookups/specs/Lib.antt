pub mod Lookups
pub mod LookupLaws
