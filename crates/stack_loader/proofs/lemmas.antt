-- What callers may cite.
pub mod RenumberLemmas
pub mod RemovalLemmas
pub mod RemovedDeviceLemmas
pub mod DepthLemmas
pub mod CappedLemmas
pub mod CostLemmas
