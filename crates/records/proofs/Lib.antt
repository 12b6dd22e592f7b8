-- The mathematics of lists of leaves, from the bottom up:
-- which voxels a list holds; a good list's leaves are as big as its voxels allow, so each set of voxels has at most one good list
pub mod Lists
pub mod Leaves
pub mod Maximal
-- each set has one, and how many leaves it can have
pub mod Parents
pub mod Fill
pub mod OneList
pub mod Most
-- a list is good just where no index has a fault; the walk that finds the first
pub mod Fault
pub mod First
pub mod Rows
pub mod Walks
-- counts of voxels; the volume
pub mod Counting
pub mod Volumes
-- lists carried voxel by voxel
pub mod Carrying
-- the leaves that meet a cell stand together; what the search finds
pub mod Part
pub mod Search
-- slots: a leaf against the edges of cells; the leaves that meet a cell and its children; arrays that a loop fills
pub mod Edges
pub mod SlotLaws
pub mod Arrays
-- the largest cell of one colour that holds a voxel, and what bounds it in a list
pub mod Sizes
pub mod Gaps
-- what follows of the calls, and instances
pub mod CallLaws
-- what is written to the front of a buffer, and what a caller may then take there
pub mod Writing
pub mod Fronts
pub mod MetLaws
pub mod Instances
