pub mod Push
pub mod PushLaws
