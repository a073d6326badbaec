-- Laws that the proofs of the code cite.
pub mod Number
pub mod Signed
pub mod Reading
pub mod Writing
pub mod RoundTrips
