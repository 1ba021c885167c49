-- Laws of lists, tests and tables.
pub mod Members
pub mod Tests
pub mod Tables
pub mod Lists
pub mod MemberTest
pub mod All
pub mod Fill
pub mod Blocks
pub mod Counts
pub mod Decides
