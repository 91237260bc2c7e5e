-- The definitions that the contracts of this crate cite.
pub mod Book
pub mod Calls
pub mod Series
