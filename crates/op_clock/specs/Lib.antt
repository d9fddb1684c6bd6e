pub mod OpClocks
pub mod OpClockLaws
