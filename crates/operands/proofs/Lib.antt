-- Operators and guards on rows of words.
pub mod RowInteger
pub mod RowSame
pub mod RowOperand
pub mod RowGuard
