mod AreaLemmas
mod EndingLemmas
mod FieldLemmas
mod HeaderLemmas
mod ObjectLemmas
mod SearchLemmas
mod SoundLemmas
mod TellingLemmas
