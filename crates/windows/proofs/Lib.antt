-- The lemmas of this crate.
pub mod Arranged
pub mod Bound
pub mod Channels
pub mod Ends
pub mod Extremes
pub mod CountLimits
pub mod Parts
pub mod Places
pub mod Searches
pub mod Shut
pub mod SteinerYeomans
