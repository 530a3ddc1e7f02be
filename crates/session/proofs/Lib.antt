-- The laws behind the session's proofs.
pub mod Lines
pub mod Texts
pub mod Cuts
pub mod Written
pub mod Room
