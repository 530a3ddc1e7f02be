-- What a statement about listing and range names: definitions only.
pub mod Set
