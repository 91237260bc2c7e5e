-- The definitions that the contracts of this crate cite.
pub mod Answers
pub mod Listing
pub mod Puts
pub mod Rows
pub mod Steps
