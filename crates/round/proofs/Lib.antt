-- The lemmas of this crate.
pub mod Counts
pub mod Faults
pub mod Offering
pub mod Walks
