-- How the statements of specs/ follow from the laws.
pub mod Runs
pub mod Changes
pub mod Parabola
pub mod Descent
pub mod Causal
pub mod Exec
