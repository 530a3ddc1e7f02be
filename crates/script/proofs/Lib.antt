-- The laws of the bench's lines: runs of bytes, reading return by return, the grammar, and reading what was written.
pub mod Runs
pub mod Turns
pub mod Grammar
pub mod Decimals
pub mod Trips
pub mod Examples
