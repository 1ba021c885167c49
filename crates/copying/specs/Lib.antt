-- What the code that finds, matches and writes terms promises, on rows of words.
pub mod Places
pub mod Matching
pub mod Copies
pub mod Nexts
