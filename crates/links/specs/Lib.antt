-- What the functions answer that read the numbers of a state from its store, and whose links they are.
pub mod Listed
pub mod Inside
