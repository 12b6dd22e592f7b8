-- What follows of the packed answers.
pub mod Unique
