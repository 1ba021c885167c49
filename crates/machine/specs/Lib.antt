-- One process step on terms.
pub mod Value
pub mod Operator
pub mod Match
pub mod Bind
pub mod Guard
pub mod Clauses
pub mod Place
pub mod Work
pub mod Opened
pub mod Laws
pub mod Cases
pub mod SameRows
