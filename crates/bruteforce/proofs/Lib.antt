-- The lemmas of this crate.
mod Counted
mod Exchanged
mod Over
