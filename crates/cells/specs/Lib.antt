-- What a reader of the public contracts reads, in this order.
pub mod Answer
pub mod Refusals
pub mod Cell
pub mod Place
pub mod Corners
pub mod Neighbour
-- labels and carries: the rule of document 01, and the tables of documents 000 and 001 as printed
pub mod Labels
pub mod AhujaNash
pub mod Payeur
-- the vocabulary of private and inner functions
pub mod Inner
