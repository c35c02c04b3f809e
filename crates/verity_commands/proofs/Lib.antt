pub mod EndingLemmas
pub mod OpeningLemmas
pub mod KeptLemmas
pub mod ObjectLemmas
pub mod CheckedLemmas
pub mod SurveyLemmas
