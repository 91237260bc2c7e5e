-- The definitions that the contracts of this crate cite, and the lemmas by which its penalties keep the laws.
pub mod Absolute
pub mod Bottoms
pub mod Cost
pub mod Deviation
pub mod Layers
pub mod Maps
pub mod OwnRows
pub mod OwnTable
pub mod OwnTableLaws
pub mod Question
pub mod Rising
pub mod Scales
pub mod Settings
pub mod Squares
pub mod TwoSided
pub mod TwoSidedLaws
