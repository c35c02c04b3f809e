-- What callers may cite.
pub mod DifferingWriteLemmas
