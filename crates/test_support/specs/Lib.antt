-- The penalties that tests use.
pub mod Centred
