-- What the parts of a rollback answer and leave.
pub mod Undone
