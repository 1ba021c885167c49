-- Laws of texts as bytes.
pub mod WritingLaws
pub mod DigitLaws
pub mod SpacedLaws
pub mod ListingLaws
