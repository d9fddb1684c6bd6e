pub mod Actors
pub mod ActorLaws
pub mod Renamed
pub mod Lives
