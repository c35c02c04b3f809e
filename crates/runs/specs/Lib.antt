pub mod Runs
pub mod Tallies
pub mod Limits
pub mod Kinds
pub mod Texts
pub mod Lines
pub mod Listings
pub mod Objects
