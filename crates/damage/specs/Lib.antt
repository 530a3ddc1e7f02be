-- The damage paragraph of document 01, as it bears on a process record and on the record being helped.
pub mod Fields
pub mod Helped
