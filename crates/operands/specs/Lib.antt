-- What the code of operators and guards promises, on rows of words.
pub mod Answers
pub mod Sames
pub mod Operands
pub mod Guards
