-- What the definitions give on examples, and that a receive takes the oldest message.
pub mod Oldest
pub mod ClauseCases
pub mod ExampleTests
pub mod SoundSentences
