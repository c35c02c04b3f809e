pub mod ErasureLemmas
pub mod FewerErasuresLemmas
pub mod KeptWeightLemmas
pub mod ParityLemmas
pub mod SumLemmas
