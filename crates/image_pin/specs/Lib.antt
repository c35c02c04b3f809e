pub mod Names
pub mod Faults
pub mod Fields
pub mod PinTexts
pub mod Mismatches
pub mod PinnedReads
pub mod Finding
pub mod Laws
