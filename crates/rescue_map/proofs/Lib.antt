pub mod lemmas
mod JoinLemmas
mod LineLemmas
mod NumberLemmas
mod PrintedLemmas
mod PrintedLineLemmas
mod ReadLemmas
mod SpliceLemmas
mod StepLemmas
mod TailLemmas
