-- What the functions of step and spawn ask for.
pub mod Stepping
