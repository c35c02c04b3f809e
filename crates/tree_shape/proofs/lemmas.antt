-- What callers may cite.
pub mod AlgorithmLemmas
pub mod ShapeFactLemmas
pub mod ShapeFaultLemmas
pub mod ShapeLemmas
