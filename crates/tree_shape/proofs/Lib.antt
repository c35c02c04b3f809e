pub mod lemmas
mod ShiftLemmas
mod WorkedShapeLemmas
