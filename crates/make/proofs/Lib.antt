-- The laws of making over a lent row: its refusals.
pub mod Refusals
