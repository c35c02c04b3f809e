-- What callers may cite.
pub mod MemoryLemmas
pub mod NameLengthLemmas
pub mod ReadLineLemmas
pub mod SectorSizeLemmas
