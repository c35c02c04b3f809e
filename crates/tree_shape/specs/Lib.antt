pub mod Algorithms
pub mod Digests
pub mod Salt
pub mod Shape
