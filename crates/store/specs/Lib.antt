-- The layout of the store, which words are an image, and load.
pub mod Layout
pub mod Image
pub mod ImageLaws
pub mod Cases
pub mod Sizing
pub mod Sized
pub mod Formed
pub mod Loading
