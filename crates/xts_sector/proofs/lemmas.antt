-- What callers may cite.
pub mod UnitLemmas
