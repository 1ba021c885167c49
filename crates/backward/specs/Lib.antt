-- What the functions of back and undeliver promise.
pub mod Undoing
