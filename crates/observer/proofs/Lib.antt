-- The net of a description, and what the proofs of the code cite.
pub mod Described
pub mod Outlined
pub mod Told
pub mod OutlinedCalls
pub mod OutlinedJudging
pub mod OutlinedCounting
pub mod Counted
