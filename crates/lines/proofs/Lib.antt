pub mod OneReply
pub mod AfterRequest
pub mod PrintsLaws
pub mod Conversation
pub mod GatherLaws
pub mod InputLaws
pub mod Program
