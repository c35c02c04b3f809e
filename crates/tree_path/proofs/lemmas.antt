-- What callers may cite.
pub mod ChainLemmas
pub mod AtMostLemmas
pub mod PathLemmas
pub mod ReadCallLemmas
pub mod SpanLemmas
