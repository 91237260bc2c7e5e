-- The definitions that the contracts of this crate cite.
pub mod Matchings
pub mod Queues
pub mod Ready
pub mod Rounds
pub mod States
pub mod Windows
