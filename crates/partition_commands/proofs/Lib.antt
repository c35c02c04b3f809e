mod KindLemmas
mod EndingLemmas
mod ImageTextLemmas
mod LoadLemmas
mod NameLemmas
mod NoteLemmas
mod ObjectLemmas
mod SignatureLemmas
