-- What callers may cite.
pub mod ByteLemmas
pub mod FieldLemmas
pub mod ColumnLemmas
pub mod StateLemmas
pub mod CipherLemmas
pub mod BlockLemmas
pub mod CipherBlocksLemmas
pub mod PartLemmas
