-- What a reader must believe of the walk and of its measure. No laws stand here, but for `Laws`, which is for the check only.
pub mod Walk
pub mod Measure
pub mod Laws
