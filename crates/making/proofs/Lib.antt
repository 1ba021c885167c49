-- The next control is that of `work`, the message that of `pick`, and the entry that of `making`.
pub mod Living
pub mod Becoming
pub mod NextRows
pub mod Made
pub mod Mailing
pub mod Picks
