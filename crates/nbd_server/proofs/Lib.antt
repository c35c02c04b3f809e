pub mod lemmas
pub mod ByteLemmas
pub mod ContentLemmas
pub mod ToldLemmas
pub mod ProgressLemmas
pub mod PieceLemmas
pub mod DeliveryLemmas
pub mod FetchLemmas
pub mod FlushLemmas
pub mod ServiceLemmas
pub mod StatusLemmas
pub mod ReadStatusLemmas
pub mod StoreLemmas
pub mod WritableLemmas
pub mod ZeroLemmas
pub mod MessageLemmas
pub mod RunLemmas
mod ExtentLemmas
mod DataBlockLemmas
pub mod UndividedLemmas
pub mod PrefetchLemmas
pub mod FaultLineLemmas
pub mod ReportLemmas
