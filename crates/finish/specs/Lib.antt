-- Points 6, 7, 8 and 12, 13, 14 of document 01: what a reader must believe. No laws stand here.
pub mod Rows
