-- The mathematics of stored blocks, from the bottom up:
-- tabulated numbers, and their stores one after the other
pub mod Tables
-- what is right in a sound block and a sound file; words and their bytes
pub mod Sound
pub mod Words
-- the file of a list, and back
pub mod Files
pub mod RoundTrip
-- the calls: no second answer; there and back; damage within a word is found
pub mod CallLaws
pub mod Theorems
pub mod Damage
pub mod Instances
