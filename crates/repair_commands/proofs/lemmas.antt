-- What callers may cite.
pub mod CountedLemmas
