-- What the proof of `host::count` uses, and what the numbers say of the answers.
mod Answering
pub mod Numbers
