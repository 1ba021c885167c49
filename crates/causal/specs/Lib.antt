-- Reversible systems: what they are, and what holds of all of them.
pub mod Paths
pub mod Directed
pub mod Laws
pub mod Causal
pub mod Exec
pub mod RunsAgree
