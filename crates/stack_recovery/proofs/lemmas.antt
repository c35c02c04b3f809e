-- What callers may cite.
pub mod CopiedMeantLemmas
pub mod JoinLemmas
pub mod LostLemmas
pub mod MeantLemmas
pub mod SkimMeantLemmas
pub mod WritingLemmas
