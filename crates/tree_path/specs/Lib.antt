pub mod Path
pub mod Seen
pub mod Spans
pub mod Steps
pub mod Laws
pub mod Unused
