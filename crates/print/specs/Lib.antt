-- What a reader must believe of what the bench writes: document 01, "Bench program, given whole", its text and its printed lines, as definitions. No laws stand here.
pub mod Text
pub mod Writing
