-- The proof of the claim, from what link proves of reached states, and what a driver may conclude from it.
pub mod Operations
pub mod Claimed
pub mod Kept
pub mod Settled
pub mod Made
pub mod Flushed
