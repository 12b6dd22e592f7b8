-- What a reader of the public contracts reads, in this order.
pub mod Record
pub mod Count
pub mod Fault
pub mod Calls
pub mod Lookups
pub mod Writing
pub mod Met
pub mod Carried
-- the vocabulary of private and inner functions
pub mod Inner
pub mod Walk
pub mod Slot
pub mod Gap
