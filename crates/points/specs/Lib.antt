-- Start and the fourteen points of document 01, by value: what a reader must believe. No laws stand here.
pub mod Rows
pub mod Step
pub mod Parts
