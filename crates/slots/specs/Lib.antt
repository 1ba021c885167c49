-- The tests of single slots and blocks.
pub mod SoundTests
pub mod SendTests
