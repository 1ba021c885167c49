-- The words that are read, said of the state that they hold.
pub mod Holding
pub mod Slotted
pub mod StateReads
pub mod Oldest
pub mod Naming
pub mod SendReads
pub mod MailReads
pub mod FlightReads
pub mod KindReads
