-- The lemmas of this crate.
pub mod Exchanges
pub mod Sifts
pub mod Kept
pub mod Offers
pub mod Selecting
pub mod Leaving
