mod GreatestLemmas
mod BlockLemmas
mod FirstLemmas
mod LineLemmas
