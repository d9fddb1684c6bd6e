pub mod Edges
pub mod EdgesLaws
pub mod WalkLaws
pub mod Told
