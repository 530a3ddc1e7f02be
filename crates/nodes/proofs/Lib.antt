-- The laws of nodes: pending words, kinds, words written, keys. Callers' proofs cite them.
pub mod Written
pub mod Keyed
