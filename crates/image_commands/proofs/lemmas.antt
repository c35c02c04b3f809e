-- What callers may cite.
pub mod EndingLemmas
pub mod WholeFileLemmas
