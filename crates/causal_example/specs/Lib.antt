-- A small reversible system.
pub mod Shelf
