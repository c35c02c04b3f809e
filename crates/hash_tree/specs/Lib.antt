pub mod Tree
pub mod Chain
pub mod Difference
pub mod Laws
pub mod Building
pub mod Placing
