-- The laws of the calls, and their theorems.
pub mod Called
pub mod Refusals
pub mod Answers
