-- The laws of observers in memory, and what the proofs of the code cite.
pub mod Observers
pub mod Observing
pub mod Valued
pub mod ValuedJudging
