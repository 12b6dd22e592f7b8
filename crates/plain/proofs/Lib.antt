-- binary digits; a bit buffer
pub mod Digits
pub mod BitLaws
-- a cursor in a list
pub mod Cursor
-- voxels displaced, and their colours
pub mod Voxels
pub mod Outwards
-- the calls
pub mod PlainLaws
pub mod Instances
