-- What a reader of the public contracts reads.
pub mod Df
-- the vocabulary of inner functions
pub mod Inner
