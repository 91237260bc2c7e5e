-- The lemmas of this crate.
pub mod Leaving
pub mod Listable
pub mod Ordering
pub mod Putting
pub mod Reading
pub mod Written
