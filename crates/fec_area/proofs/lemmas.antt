-- What callers may cite.
pub mod KeptLemmas
