-- The flag of a new record, points 4 and 5 of document 01: what a reader must believe. No laws stand here.
pub mod Rows
pub mod Parts
