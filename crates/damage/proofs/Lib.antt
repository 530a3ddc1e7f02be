-- The laws of the damage checks, return by return.
pub mod Laws
