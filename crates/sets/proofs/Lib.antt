-- The laws of the sweep, from the bottom up: cursors into the lists; pieces of one colour in both
pub mod Cursors
pub mod Pieces
-- what follows of the calls: no second answer fits
pub mod SetLaws
