pub mod EndingLemmas
pub mod TableLemmas
pub mod LayingLemmas
mod NeededLemmas
mod ProtectingLemmas
pub mod VerifyingLemmas
