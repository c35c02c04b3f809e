-- What callers may cite.
pub mod AskedLemmas
