pub mod Refusals
pub mod Reader
pub mod Joined
pub mod Output
pub mod Places
pub mod Walk
