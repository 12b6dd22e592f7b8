-- What a reader of the public contracts reads, in this order.
pub mod Bits
pub mod Calls
-- the vocabulary of private functions
pub mod Inner
