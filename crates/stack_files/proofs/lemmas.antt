pub mod EntryLemmas
pub mod NoteLemmas
