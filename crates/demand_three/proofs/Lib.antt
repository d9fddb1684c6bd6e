pub mod DemandThreeLaws
