pub mod lemmas
pub mod RangeLemmas
pub mod FlightLemmas
pub mod RequestPieceLemmas
pub mod WriteLemmas
pub mod TurnLemmas
pub mod WrittenPieceLemmas
pub mod FinishLemmas
