-- Places, matching and copying in rows of words.
pub mod RowPlace
pub mod RowWrite
pub mod RowMatch
pub mod RowCopy
pub mod RowNext
