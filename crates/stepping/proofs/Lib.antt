-- What a step and a spawn of a process that lives come to.
pub mod Steps
pub mod Spawning
