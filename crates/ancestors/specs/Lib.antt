pub mod Ancestors
pub mod KeptLaws
pub mod AncestorLaws
