-- The definitions that the contracts of this crate cite.
pub mod Answers
pub mod Memory
pub mod Outcomes
pub mod Refusals
pub mod Searches
pub mod Sequences
