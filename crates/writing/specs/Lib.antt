-- What is written into a store, in words and in states.
pub mod Slots
pub mod Writes
