-- What a reader must believe of the calls: start and step, and the answers of all in numbers, as definitions.
pub mod Calls
pub mod Answers
