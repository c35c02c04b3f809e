pub mod Stacks
pub mod Streams
pub mod Scans
pub mod Services
pub mod Images
pub mod Partitions
pub mod Trees
pub mod Commands
