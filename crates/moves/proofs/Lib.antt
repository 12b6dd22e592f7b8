-- when a move is accepted
pub mod Acceptance
-- the shift back to the sources gives the displaced voxels
pub mod Back
-- what follows of the call
pub mod MoveLaws
