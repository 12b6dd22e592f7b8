-- What a reader of the public contract reads.
pub mod Turns
-- the vocabulary of inner functions
pub mod Inner
