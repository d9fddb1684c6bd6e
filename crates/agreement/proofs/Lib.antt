pub mod ValidAgrees
pub mod NewActorCall
