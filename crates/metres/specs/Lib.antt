-- What a reader of the public contract reads.
pub mod Metres
-- the move the other way
pub mod Opposite
-- the vocabulary of private and inner functions
pub mod Taken
pub mod Inner
