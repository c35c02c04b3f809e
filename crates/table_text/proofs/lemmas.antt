-- What callers may cite.
pub mod KeyLemmas
pub mod ReadBackLemmas
