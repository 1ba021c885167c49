pub mod Packed
pub mod LoadLaws
