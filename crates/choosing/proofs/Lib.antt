-- Clauses in rows of words.
pub mod RowClause
