-- What ties a block and a row of process records to the history of the shared tables: definitions only.
pub mod Tables
pub mod Events
pub mod Swaps
pub mod Operations
pub mod Sets
