pub mod Texts
pub mod Opening
pub mod Paths
pub mod Refusals
