-- What a successful swap at 4 or 5 draws from the tables, as definitions.
pub mod Draw
