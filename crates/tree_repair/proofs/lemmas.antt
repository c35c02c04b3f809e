-- What callers may cite.
pub mod EachLemmas
pub mod SameLemmas
pub mod SteadyLemmas
