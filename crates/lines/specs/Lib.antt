-- What is said for command lines and for the input of the program.
pub mod Performed
pub mod Listed
pub mod Input
pub mod InputDetermined
pub mod Conversation
