-- Sectors that are copied from one device to another.
use Rattle.std.specs.Prelude.{◌≡◌, ◌⊎◌, ℕ, IsTrue}
use Rattle.block_device.specs.Device.{Device, HasFailed, IsSameDevice, run_of, spliced}

-- n sectors were copied to the same place of another device; if both are steady, nothing else changed
pub record AreCopied (from to : Device) (first n : ℕ) (from' to' : Device) : Type 0 where
  pub from_same : IsSameDevice from from'
  pub from_failures : from'.failures ≡ from.failures
  pub from_image : IsTrue from.steady → from'.image ≡ from.image
  pub to_same : IsSameDevice to to'
  pub to_failures : to'.failures ≡ to.failures
  pub image : IsTrue from.steady → IsTrue to.steady → to'.image ≡ spliced to.image first (run_of from.image first n)

-- one of the two devices failed
abbrev pub FailsToCopy : Device → Device → Device → Device → Type 0
FailsToCopy from to from' to' = HasFailed from from' ⊎ HasFailed to to'
