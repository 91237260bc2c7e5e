-- The lemmas of this crate.
pub mod Playing
pub mod Rooms
