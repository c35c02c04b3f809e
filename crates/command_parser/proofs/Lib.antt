pub mod CommandLemmas
pub mod GrammarLemmas
mod OptionLemmas
mod UnreadLemmas
