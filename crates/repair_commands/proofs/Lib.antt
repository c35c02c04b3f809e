mod CopyLemmas
mod CounterLemmas
mod EndingLemmas
mod GoingOnLemmas
mod MendLemmas
mod PairLemmas
mod ScanLemmas
mod TellingLemmas
mod ValidLemmas
pub mod lemmas
