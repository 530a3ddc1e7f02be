-- The laws of the filling pass.
pub mod Storing
