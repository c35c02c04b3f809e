pub mod lemmas
mod WorkedTextLemmas
mod WorkedUnstripedLemmas
