-- The lemmas of this crate.
pub mod Same
