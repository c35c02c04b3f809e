-- What callers may cite.
pub mod LoadedLineLemmas
pub mod WriteCostLemmas
pub mod CryptLineLemmas
pub mod ParityLineLemmas
pub mod VerityLineLemmas
pub mod FactLemmas
