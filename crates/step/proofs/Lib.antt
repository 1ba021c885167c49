-- Rows of words, and the terms that they stand for.
pub mod RowStep
pub mod RowSplit
pub mod RowWork
pub mod RowTags
pub mod RowBecomes
pub mod RowApply
pub mod RowSeq
pub mod RowSend
pub mod RowChild
pub mod PlainTerms
pub mod Redexes
pub mod Ready
