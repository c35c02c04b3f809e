pub mod lemmas
pub mod KeyLemmas
pub mod LineOfLemmas
pub mod EmptyLemmas
