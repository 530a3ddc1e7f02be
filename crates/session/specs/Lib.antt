-- What a reader must believe of the bench: what a line does, what is printed of it, and how the input is cut into lines. No laws stand here.
pub mod Line
pub mod Text
pub mod Cut
