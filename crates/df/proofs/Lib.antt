-- The laws of DF text, from the bottom up:
-- the children of a gray cell
pub mod Kids
-- texts of trees, byte by byte
pub mod Spells
-- each set of voxels has one text
pub mod OneText
-- texts that are begun, and the first wrong byte
pub mod Halves
-- whole texts
pub mod Texts
-- the reading of a cell
pub mod Readings
-- the text of a cell, as a list has it
pub mod Spelled
-- the calls
pub mod CallLaws
-- text and list turn into one another and back
pub mod Theorems
-- answers that fit, and answers that do not
pub mod Instances
