-- What callers may cite.
pub mod EndLemmas
