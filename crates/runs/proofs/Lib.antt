-- The table holds; the listing of a fresh tree.
pub mod Holds
pub mod Examples
pub mod Witness
