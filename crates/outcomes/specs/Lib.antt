-- What it means that a promise leaves one outcome.
pub mod Outcome
