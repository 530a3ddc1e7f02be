-- The laws of the block: choices, lists, header, numbers and words, places. Callers' proofs cite them.
pub mod Picks
pub mod Lists
pub mod Limits
pub mod OneToOne
pub mod Stored
pub mod Places
