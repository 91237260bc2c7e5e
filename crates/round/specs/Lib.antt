-- The definitions that the contracts of this crate cite.
pub mod Audit
pub mod Dearest
pub mod Lists
pub mod Order
pub mod Refusals
pub mod Tables
pub mod Walk
