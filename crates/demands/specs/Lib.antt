-- what demands 1 and 3 ask
pub mod Laws
-- a record sent over by metres and back: ticket 3
pub mod OverAndBack
-- quarter turns: ticket 4
pub mod Turns
-- the lookup that tells the size: ticket 6
pub mod Lookups
-- both engines: ticket 5
pub mod Engines
-- calls that are none of the library's
pub mod Impostors
-- the examples of document 01
pub mod Examples
