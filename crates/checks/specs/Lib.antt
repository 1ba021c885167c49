pub mod Walking
pub mod Checking
