-- The order's demands as theorems over the definitions that are the calls' contracts.
-- what an answer tells of a call's inputs and of what it wrote
pub mod Outcomes
-- demand 1: what a refused call is lent stays as it was
pub mod Kept
-- demand 3: moves one after the other, moves and sets, volumes; buffers with room
pub mod Moves
pub mod Distributes
pub mod Volumes
pub mod Room
-- ticket 3: a record sent over by metres and back
pub mod OverAndBack
-- ticket 4: quarter turns
pub mod Turns
-- ticket 6: the lookup that tells the size
pub mod Lookups
-- ticket 5: both engines
pub mod Engines
-- calls worked out, and the checked examples of document 01
pub mod Agreement
pub mod WorkedMoves
pub mod Worked
pub mod Starred
-- how tight the statements are: named instances, and no impostor
pub mod Named
pub mod Impostors
pub mod StoredImpostors
pub mod TextImpostors
pub mod DfImpostors
pub mod TurnImpostors
pub mod BitImpostors
pub mod LookupImpostors
