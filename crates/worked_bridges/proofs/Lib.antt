-- The lemmas of this crate.
pub mod Answering
pub mod Examples
pub mod Slots
pub mod Tests
pub mod Windows
