-- What the public calls promise.
pub mod Calls
pub mod Promises
pub mod Numbers
pub mod Answering
pub mod PastDecides
pub mod WordsAgree
pub mod ForwardMeets
pub mod ListingRoom
pub mod Demand1
