-- The laws of the walk and of its measure.
pub mod Walks
pub mod Rooms
pub mod Passing
pub mod Measuring
