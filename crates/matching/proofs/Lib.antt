-- The lemmas of this crate.
pub mod Blanks
pub mod Counting
pub mod Crowds
pub mod Ends
pub mod Fills
pub mod Movables
pub mod Orders
pub mod Progress
pub mod Queueing
pub mod Steps
pub mod Unique
