-- Deliver answers and leaves what `run` gives.
pub mod Delivering
