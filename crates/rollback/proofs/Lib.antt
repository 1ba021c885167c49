-- Undoing in a store, and the four answers.
pub mod LinkDown
pub mod RollbackCalls
