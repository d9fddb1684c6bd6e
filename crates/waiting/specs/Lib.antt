pub mod Refused
pub mod RefusedLaws
pub mod Valid
pub mod ValidLaws
pub mod Taken
