-- the vocabulary of inner functions: this crate has no public call
pub mod LabelSums
pub mod Shift
pub mod Descent
