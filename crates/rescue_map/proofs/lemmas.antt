-- What callers may cite.
pub mod ParsedLemmas
pub mod RunLemmas
pub mod SpanLemmas
pub mod StatusLemmas
