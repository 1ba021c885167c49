-- Laws of replies, and of what a line asks for.
pub mod ReplyRoom
pub mod LineLaws
