-- What the code of one process step promises, on rows of words.
pub mod Steps
pub mod Controls
pub mod Becomes
