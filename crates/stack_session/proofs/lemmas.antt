-- What callers may cite.
pub mod QueueRunLemmas
pub mod QueueSessionLemmas
