mod CutLemmas
mod FindingLemmas
mod PinnedLemmas
mod PrintedLemmas
