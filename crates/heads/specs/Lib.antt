pub mod Heads
pub mod HeadLaws
