pub mod CutLemmas
pub mod LastCutLemmas
