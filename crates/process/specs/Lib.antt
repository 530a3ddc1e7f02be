-- The process record and what a step answers, as definitions.
pub mod Process
pub mod Answer
