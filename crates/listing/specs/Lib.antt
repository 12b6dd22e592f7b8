-- the vocabulary of the program's own function: this crate has no public call
pub mod Listing
