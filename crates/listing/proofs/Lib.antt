-- What is written is the listing of the state.
pub mod ProcessLaws
pub mod FlightLaws
pub mod ListingLaws
