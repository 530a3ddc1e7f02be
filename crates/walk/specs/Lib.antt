-- What a reader must believe of listing and range: the answers' numbers and the calls. `Parts` are steps on the way to a call, for the proofs only. No laws stand here.
pub mod Answer
pub mod Calls
pub mod Parts
