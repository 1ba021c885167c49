-- How much is read at once, and what it leaves.
pub mod Left
pub mod Rooms
