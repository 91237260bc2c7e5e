-- The definitions that the contracts of this crate cite.
pub mod Lines
pub mod Text
