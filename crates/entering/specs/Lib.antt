-- An entry more, in words and in states.
pub mod Entering
