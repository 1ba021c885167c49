-- Laws of command lines.
pub mod PieceLaws
pub mod NumberLaws
pub mod CommandLaws
pub mod LongLines
pub mod Outcomes
