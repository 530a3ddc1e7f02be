-- The laws of writing, return by return. Callers' proofs cite them.
pub mod Buffers
