-- Terms in rows of words.
pub mod Bounds
pub mod Rows
