-- What a reader must believe of making over a lent row: the call, as a definition.
pub mod Make
