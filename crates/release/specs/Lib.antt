pub mod Release
pub mod ReleaseLaws
