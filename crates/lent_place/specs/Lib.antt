pub mod Places
pub mod PlacesLaws
