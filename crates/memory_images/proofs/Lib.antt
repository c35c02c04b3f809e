pub mod FileLemmas
pub mod PartLemmas
