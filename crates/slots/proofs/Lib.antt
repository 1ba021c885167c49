-- The tests of slots decide the clauses of soundness about shapes and births.
pub mod Chunks
pub mod SoundTestWalk
pub mod SoundTestShape
pub mod SoundTestBirths
pub mod SoundTestRun
pub mod SoundTestClause
pub mod Marks
pub mod BlockViews
pub mod Occurring
pub mod BirthClause
pub mod SendTest
