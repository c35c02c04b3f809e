pub mod LastStart
pub mod Keys
pub mod Facts
