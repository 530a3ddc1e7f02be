-- The table of small runs, what a run measures, and what demand 3 says of three of them.
pub mod Run
pub mod Table
pub mod Witness
