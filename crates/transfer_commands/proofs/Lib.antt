pub mod RequestOpeningLemmas
pub mod WriteLemmas
mod CatLemmas
mod FillLemmas
mod ImageLemmas
mod StreamOpeningLemmas
mod StoreLemmas
mod StreamingLemmas
