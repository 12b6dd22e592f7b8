-- The vocabulary of the emitter and of the writers that feed it
pub mod Inner
