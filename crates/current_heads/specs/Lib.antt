pub mod Current
pub mod Ascents
pub mod CurrentLaws
