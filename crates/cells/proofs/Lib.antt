-- The mathematics of cells, from the bottom up:
-- truth values, powers, tables and whole numbers
pub mod Bools
pub mod Power
pub mod Table
pub mod Integers
-- first numbers; what a table of refusals decides, and that a refusal has a number
pub mod Firsts
pub mod Decisions
pub mod Refused
-- a proper code as level, index and levels below: the one view of a cell; the other views from it
pub mod Cells
pub mod Levels
pub mod Parting
pub mod Words
pub mod Places
pub mod CornerLaws
-- labels worked out one by one: the sum along an axis
pub mod Labelwise
-- displaced places and voxels
pub mod Displacements
-- the neighbour by the cells of its level
pub mod NeighbourLaws
pub mod Views
-- document 000: two's complements, table 2 and its sums
pub mod Congruent
pub mod Sums
-- sums on the bits of one axis, and the steps that the code takes by them
pub mod Dilated
pub mod AxisSteps
-- document 001: the rules, labels worked out by them, directions, the neighbour by its tables
pub mod Rules
pub mod Steps
pub mod Directions
pub mod ByTables
-- what follows of the calls, and instances
pub mod Theorems
pub mod Instances
