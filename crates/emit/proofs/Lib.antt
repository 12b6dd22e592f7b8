-- The laws of the emitter, from the bottom up:
-- codes stored in a buffer; the cells of a run and the emitter's state; writers
pub mod Fits
pub mod Runs
pub mod Children
-- what a call answers that writes all of a good list or nothing
pub mod Answers
