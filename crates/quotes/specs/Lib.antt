-- The definitions that the contracts of this crate cite.
pub mod Figure
pub mod Quotes
pub mod Refusals
