-- The laws of a row and of helping, return by return.
pub mod Rowed
