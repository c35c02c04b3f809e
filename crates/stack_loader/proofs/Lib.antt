pub mod lemmas
pub mod LeafLemmas
pub mod CycleRefusalLemmas
pub mod DuplicateNameLemmas
pub mod RuleOrderLemmas
pub mod AfterLoadLemmas
pub mod LoadLemmas
pub mod RemoveLemmas
pub mod RemovalRuleLemmas
pub mod RemovalFactLemmas
mod FactsLemmas
pub mod PlaceLemmas
pub mod TableLemmas
pub mod LineRuleLemmas
pub mod GreatestLemmas
pub mod DeviceSetLemmas
pub mod ClosureLemmas
pub mod LowerSetLemmas
