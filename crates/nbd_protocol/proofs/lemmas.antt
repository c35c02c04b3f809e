-- What callers may cite.
pub mod CountedLemmas
pub mod ExportLemmas
pub mod IntakeLemmas
