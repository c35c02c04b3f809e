-- What callers may cite.
pub mod AnswerLemmas
pub mod CacheLemmas
pub mod KeyLemmas
