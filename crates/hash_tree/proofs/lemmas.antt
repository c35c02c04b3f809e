-- What callers may cite.
pub mod AreaBlockLemmas
pub mod BlockwiseLemmas
pub mod BuilderLemmas
pub mod BuildingLemmas
pub mod GrowLemmas
pub mod LawLemmas
pub mod PackingLemmas
pub mod PlacingLemmas
pub mod TreeFactLemmas
pub mod TreeLemmas
