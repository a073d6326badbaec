-- Laws that the proofs of the journal's functions cite.
pub mod Putting
pub mod Telling
pub mod Printing
pub mod Reading
pub mod Runs
pub mod Stepping
pub mod Passed
