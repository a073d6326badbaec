-- The laws of readers and of what is written.
pub mod Reader
pub mod Replies
pub mod Inverse
pub mod Places
pub mod Joined
pub mod Filling
pub mod Walk
pub mod Counting
pub mod Measured
pub mod Both
pub mod Longest
pub mod Wider
