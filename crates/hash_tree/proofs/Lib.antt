pub mod lemmas
pub mod BlockListLemmas
pub mod ChainLemmas
pub mod BuildLemmas
pub mod GroupLemmas
pub mod PushGroupLemmas
pub mod RefusalLemmas
pub mod FormedLemmas
pub mod CollisionLemmas
mod WorkedTreeLemmas
mod WorkedBuilderLemmas
