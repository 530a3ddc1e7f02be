-- The laws of the calls; refusals and answers one to one; examples.
pub mod Calling
pub mod Answers
pub mod Examples
