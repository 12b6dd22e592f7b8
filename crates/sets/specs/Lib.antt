-- What a reader of the public contracts reads.
pub mod Sets
-- the vocabulary of inner functions
pub mod Inner
