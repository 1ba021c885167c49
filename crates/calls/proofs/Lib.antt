-- What follows from the contracts of the calls, and how a call meets its own.
pub mod AnswerNumbers
pub mod Answering
pub mod Determined
pub mod OneAnswer
pub mod Past
pub mod Accepted
pub mod Loads
pub mod Returns
pub mod Shams
pub mod Promises
pub mod PastDecides
pub mod WordsAgree
pub mod ForwardMeets
pub mod QueuedOnce
pub mod TextLengths
pub mod ListingRoom
pub mod Demand1
