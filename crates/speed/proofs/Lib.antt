-- The laws of an operation, and of the work.
pub mod Operations
pub mod Works
