-- What callers may cite.
pub mod AnsweredLemmas
pub mod BlockLemmas
pub mod CallEndLemmas
pub mod DamagedLemmas
pub mod FormattedLemmas
pub mod HealedLemmas
pub mod MendLemmas
pub mod NoParityLemmas
pub mod PieceLemmas
pub mod RestoredLemmas
pub mod RoundLemmas
pub mod SyncLemmas
pub mod WalkLemmas
pub mod WritePieceLemmas
