-- Command lines read, as bytes.
pub mod Pieces
pub mod Requests
