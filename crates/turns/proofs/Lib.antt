-- labels changed one by one, and turned
pub mod Relabels
pub mod Labels
-- a voxel and its source
pub mod Sources
-- a turn keeps the leaf count
pub mod LeafCount
-- the descent
pub mod Targets
-- the call
pub mod TurnLaws
pub mod Instances
