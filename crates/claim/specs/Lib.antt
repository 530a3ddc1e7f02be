-- What demand 3 claims, and what its driver may conclude: statements only.
pub mod Claim
pub mod Kept
pub mod Flushed
