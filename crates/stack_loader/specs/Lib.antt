pub mod Facts
pub mod Next
pub mod Places
pub mod Index
pub mod DeviceSet
pub mod Depths
pub mod Costs
