pub mod lemmas
mod PartLemmas
mod WindowCallLemmas
mod PutLemmas
mod DifferingCallLemmas
mod CopyLemmas
mod LackingLemmas
