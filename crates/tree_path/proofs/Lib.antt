pub mod MemoryLemmas
mod WorkedUnusedLemmas
pub mod lemmas
