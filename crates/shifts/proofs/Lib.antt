-- Labels and their sums, from the bottom up: the bits of a label, the code's operators, the sum label by label
pub mod Bits
pub mod Tables
pub mod Adder
-- the descent: one source cell copied; target cells and their children
pub mod Copying
pub mod Targets
