mod BitLemmas
mod LaneLemmas
mod PaddingLemmas
mod WordLemmas
