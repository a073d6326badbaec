pub mod Lists
pub mod Promises
