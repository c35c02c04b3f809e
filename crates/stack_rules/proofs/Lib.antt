pub mod lemmas
pub mod TreeLemmas
pub mod WorkedLoadLemmas
pub mod WorkedVerityLemmas
