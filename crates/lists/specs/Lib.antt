-- Lists, tests and tables that the other crates share.
pub mod Lists
pub mod Members
pub mod Tables
pub mod Fill
pub mod Decides
