pub mod Chained
pub mod ChainedLaws
