pub mod lemmas
mod EightLemmas
mod LastLemmas
mod UnitLemmas
