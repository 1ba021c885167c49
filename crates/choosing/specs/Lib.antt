-- What the code on clauses promises, on rows of words.
pub mod Clausal
