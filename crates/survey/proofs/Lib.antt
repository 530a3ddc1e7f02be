-- Listing and range on sound tables: the walk over a block meets the nodes and keys that the history says, so its keys are the set.
pub mod Walks
pub mod Calls
