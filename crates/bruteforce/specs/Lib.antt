-- The definitions that the contracts of this crate cite.
pub mod Arrangements
pub mod Largest
