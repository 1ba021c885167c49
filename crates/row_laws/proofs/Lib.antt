-- Rows of words, and the terms that stand in them.
pub mod RowTerms
pub mod RowBind
