-- The lemmas of this crate.
pub mod OwnRows
pub mod Squares
pub mod Tables
