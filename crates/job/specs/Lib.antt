-- The definitions that the contracts of this crate cite.
pub mod Adds
pub mod Faults
pub mod Held
pub mod Jobs
pub mod Records
pub mod Taking
