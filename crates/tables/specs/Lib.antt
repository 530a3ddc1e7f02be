-- What a reader must believe of the block: document 01, "Numbers" and "Tables", as definitions; pendings, nodes and keys stand in `nodes`. No laws stand here.
pub mod Choice
pub mod Numbers
pub mod Refusal
pub mod Layout
pub mod Place
pub mod Header
