pub mod Judged
pub mod Judge
pub mod JudgeLaws
pub mod Hub
pub mod HubLaws
