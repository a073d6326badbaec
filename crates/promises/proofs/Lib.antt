-- The proofs of the promises.
pub mod Told
pub mod Described
pub mod Bytes
pub mod Values
pub mod Meaning
pub mod RoundTrips
pub mod Longest
pub mod Older
pub mod Editions
pub mod Refusals
pub mod Promises
pub mod Examples
