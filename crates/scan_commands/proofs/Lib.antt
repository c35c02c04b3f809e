pub mod OpeningLemmas
mod PassLemmas
pub mod ReportLemmas
mod ChartLemmas
mod MapFileLemmas
mod TurnLemmas
mod NextTurnLemmas
mod LastPassLemmas
mod PassingLemmas
mod RetryTurnLemmas
pub mod NameLemmas
pub mod PlainLemmas
mod TreeLemmas
mod LawLemmas
mod LostSectorLemmas
mod LostMarkLemmas
mod LostTurnLemmas
mod FoundRunLemmas
mod MeantTurnLemmas
mod MeantPassLemmas
mod MeantStateLemmas
mod PlainPassLemmas
mod MapUseLemmas
mod BackwardLemmas
mod LessLemmas
