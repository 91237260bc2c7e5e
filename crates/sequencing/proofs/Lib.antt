-- The lemmas of this crate.
pub mod Answering
pub mod Costs
pub mod Making
pub mod Occurrences
pub mod Ruling
pub mod Searching
pub mod Standing
pub mod Writing
