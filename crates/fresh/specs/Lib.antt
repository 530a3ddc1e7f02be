-- What a reader must believe of making: the fresh tree, as definitions.
pub mod Fresh
