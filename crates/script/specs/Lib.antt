-- What a reader must believe of how the bench's lines are read: document 01, "Bench program, given whole", as definitions. No laws stand here.
pub mod Reading
pub mod Position
pub mod Form
