-- The lemmas of this crate.
pub mod Adding
pub mod Numbers
