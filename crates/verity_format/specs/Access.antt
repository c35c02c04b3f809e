-- Digests of a device's blocks, and why they couldn't be computed.
use Rattle.std.specs.Prelude.{◌≡◌, ℕ, ◌*◌, ◌/◌, IsTrue, List, length, map, All}
use Rattle.allocation.specs.Refusal.{IsOutOfMemory}
use Rattle.block_device.specs.Device.{Device, HasFailed}
use Rattle.tree_shape.specs.Digests.{digest}
use Rattle.verity_format.specs.declared.access.TreeFault.{TreeFault}
use Rattle.verity_format.specs.declared.access.TreeFault.TheVariants.{Device as DeviceFailed, NoMemory}
use Rattle.verity_format.specs.Blocks.{IsFullRead, blocks_at}

-- the most elements of one allocation: the bytes of the data that one call reads
abbrev pub largest_allocation : ℕ
largest_allocation = 65536

-- the device failed in the call, or an allocation failed and the device didn't
abbrev pub IsTreeCause : Device → Device → TreeFault → Type 0
IsTreeCause old new DeviceFailed = HasFailed old new
IsTreeCause old new NoMemory = (new.failures ≡ old.failures) × IsOutOfMemory largest_allocation

-- digests of 32 bytes; if the device is steady, those of its blocks of that size from block `first` on
pub record AreDigestsOf (device : Device) (salt : List ℕ) (size first : ℕ) (digests : List (List ℕ)) : Type 0 where
  pub sized : All (λ d. length d ≡ 32) digests
  pub over : IsTrue device.steady → digests ≡ map (digest salt) (blocks_at device.image size first (length digests))

-- blocks of that size were read once, from block `first` on, and these are their digests
pub record IsDigestRun (old : Device) (salt : List ℕ) (size first : ℕ) (taken : List (List ℕ)) (new : Device) : Type 0 where
  pub digests : AreDigestsOf old salt size first taken
  pub full : IsFullRead old (length taken * (size / 512)) new
