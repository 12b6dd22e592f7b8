-- What a reader of the public contracts reads.
pub mod Text
-- the vocabulary of inner functions
pub mod Inner
