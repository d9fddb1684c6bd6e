pub mod Face
pub mod FaceLaws
