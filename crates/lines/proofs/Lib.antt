-- The lemmas of this crate.
pub mod Lengths
pub mod Puts
