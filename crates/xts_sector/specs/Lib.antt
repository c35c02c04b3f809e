pub mod Blocks
pub mod Tweak
pub mod Masks
pub mod Xts
pub mod FirstTweaks
pub mod Units
pub mod XtsKey
