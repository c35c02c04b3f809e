-- What callers may cite.
pub mod ServiceReportLemmas
