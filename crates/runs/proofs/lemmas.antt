-- What callers may cite.
pub mod RunLemmas
pub mod ListingLemmas
pub mod KindLemmas
pub mod ObjectLemmas
