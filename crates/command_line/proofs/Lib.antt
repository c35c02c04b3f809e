pub mod CommandWordLemmas
pub mod ImageCopyLemmas
pub mod SaltLemmas
pub mod lemmas
