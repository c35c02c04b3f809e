pub mod lemmas
mod MoveLemmas
mod SlotLemmas
