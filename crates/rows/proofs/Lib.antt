pub mod TableLaws
pub mod SkipLaws
pub mod StartLaws
