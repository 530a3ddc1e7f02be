-- The laws of the flag of a new record, return by return.
pub mod Flags
