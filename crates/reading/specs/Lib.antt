-- What is read of a store that holds a state.
pub mod Mail
pub mod Reads
