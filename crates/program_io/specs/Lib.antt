pub mod Counted
pub mod Streams
pub mod JsonLines
