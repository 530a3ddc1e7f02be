-- The laws of drawing: turn by turn, and what stands in the block after it.
pub mod Laws
pub mod After
