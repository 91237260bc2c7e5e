-- The definitions that the contracts of this crate cite.
pub mod Input
pub mod Line
pub mod Report
