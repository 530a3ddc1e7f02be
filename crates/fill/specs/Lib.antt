-- What a reader must believe of the pass that fills a list. No laws stand here, but for `Laws`, which is for the check only.
pub mod Fill
pub mod Laws
