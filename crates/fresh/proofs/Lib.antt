-- The laws of making: words stored, the fresh block, refusals, examples. Callers' proofs cite them.
pub mod Stored
pub mod Making
pub mod Refusals
pub mod Examples
