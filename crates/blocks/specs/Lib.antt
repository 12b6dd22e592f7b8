-- What a reader of the public contracts reads, in this order.
pub mod Block
pub mod File
pub mod Calls
-- the vocabulary of private and inner functions
pub mod Inner
