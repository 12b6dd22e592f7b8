-- What a reader of the contracts reads.
pub mod Arrivals
