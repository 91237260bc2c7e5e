-- The definitions that the contracts of this crate cite.
pub mod Allowed
pub mod Extremes
pub mod Filling
pub mod Formulas
pub mod CountLimits
pub mod Windows
