pub mod Planes
pub mod Circuit
pub mod Constant
pub mod InverseCircuit
pub mod Keys
pub mod Rounds
pub mod LanesKey
