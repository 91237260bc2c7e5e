-- The definitions that the contract of this crate cites.
pub mod Answers
pub mod Bridges
