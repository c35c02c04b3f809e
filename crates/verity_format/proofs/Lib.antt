pub mod lemmas
pub mod FieldLemmas
pub mod BlockLemmas
pub mod ChainCallLemmas
pub mod GrowthLemmas
pub mod ComparingLemmas
pub mod WritingLemmas
pub mod HandingLemmas
pub mod ComparedLemmas
pub mod RefusalLemmas
pub mod FormattingLemmas
pub mod VerifyingLemmas
pub mod LineLemmas
mod WorkedValueLemmas
