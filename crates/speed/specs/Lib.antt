-- What the timed program does with the calls, and how it counts what came of them.
pub mod Steps
pub mod Operation
pub mod Work
