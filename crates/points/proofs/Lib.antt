-- The laws of start and the fourteen points; then, from Accepted on, the theorems: answers, refusals, what a step touches and leaves.
pub mod Steps
pub mod Accepted
pub mod Counted
pub mod Refusals
pub mod Leaves
pub mod Touches
