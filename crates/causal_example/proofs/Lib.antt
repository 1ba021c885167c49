-- The shelf keeps the laws, and what that says of some sequences.
pub mod Steps
pub mod Laws
pub mod Examples
