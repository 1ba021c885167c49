-- Ends of outputs and of lines, and what a script's bytes make of a line.
pub mod Ends
pub mod Gathering
