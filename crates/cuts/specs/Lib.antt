-- The numbers that a rollback goes by, and what a cut and a search on them answer.
pub mod Bounds
pub mod Links
pub mod Chains
pub mod Going
