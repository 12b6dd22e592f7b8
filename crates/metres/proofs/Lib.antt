-- From metres to whole voxels: `NearestLaws` is all that depends on the tie rule.
pub mod NearestLaws
pub mod Rounding
pub mod Floats
pub mod Coordinates
-- the outcome of a move, and how it decides in a call above
pub mod TakenLaws
-- d and -d
pub mod Opposites
pub mod Examples
