-- The laws of the history, from single words up to what a busy process knows.

-- words, rows of keys, the child for a key
pub mod Rank
pub mod Route
pub mod Rows
pub mod Alone
-- paths, and what the two swaps do to them
pub mod Paths
pub mod SearchOrder
pub mod Replaced
pub mod Pruned
-- the invariant, and how every change keeps it
pub mod Invariant
pub mod Touch
pub mod Brings
pub mod Static
pub mod Grow
pub mod Assemble
pub mod Standing
pub mod Flags
pub mod SwapReplace
pub mod SwapPrune
pub mod Draws
pub mod Keep
pub mod Fresh
-- what a change does: to the set, to child words, to records
pub mod SetLaws
pub mod ChildWords
pub mod Lasting
pub mod Opening
pub mod Quiet
-- over runs
pub mod Runs
pub mod SearchPath
pub mod Swapping
pub mod Newer
-- what a walk meets
pub mod Walking
-- what a process remembers, and knows at each point
pub mod Pairs
pub mod Remember
pub mod Depth
pub mod Stacks
pub mod Helping
pub mod Helps
pub mod Descent
pub mod Knows
pub mod Serving
pub mod Downward
pub mod Drawing
