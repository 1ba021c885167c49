-- Lines written, as bytes.
pub mod Lines
pub mod Written
