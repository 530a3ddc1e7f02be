-- What the history of the shared tables is said in: definitions only.
pub mod View
pub mod Keys
pub mod Shared
pub mod Change
pub mod Effects
pub mod Run
pub mod Walk
pub mod Fresh
