pub mod AreaLemmas
pub mod DeviceLemmas
pub mod RoomLemmas
pub mod RunLemmas
pub mod SizeLemmas
pub mod SpellingLemmas
