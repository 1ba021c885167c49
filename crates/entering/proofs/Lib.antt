-- What the functions of an entry more write is the image of the state after.
pub mod EnterCode
pub mod EnterLaws
