pub mod Deps
pub mod DepsLaws
pub mod Parents
pub mod ParentsLaws
