-- What a reader of the public contract reads.
pub mod Moves
-- the vocabulary of private and inner functions
pub mod Inner
