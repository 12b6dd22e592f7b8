-- the vocabulary of the calls for tests from outside: none is for a host
pub mod Probe
