pub mod Cache
pub mod Laws
pub mod Lending
pub mod Slots
