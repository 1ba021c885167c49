-- What the parts of the listing promise.
pub mod Listed
