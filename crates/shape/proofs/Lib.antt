pub mod SpotLaws
pub mod AlikeLaws
pub mod ReadingLaws
