pub mod ActorsAgree
pub mod AskingAgrees
pub mod ClocksAgree
pub mod PushingAgrees
pub mod Calls
pub mod LaidOut
