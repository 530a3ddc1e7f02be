-- What a row of document 01 is, and helping: what a reader must believe. No laws stand here.
pub mod Touch
pub mod Help
pub mod Reads
