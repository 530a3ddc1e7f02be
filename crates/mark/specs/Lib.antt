-- Points 9, 10, 11 of document 01: what a reader must believe. No laws stand here.
pub mod Rows
pub mod Parts
