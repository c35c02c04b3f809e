pub mod OverwriteLemmas
pub mod ShownLemmas
