-- Parity that is written.
use Rattle.std.specs.Prelude.{◌≡◌, ◌⊎◌, ◌<◌, false, IsTrue}
use Rattle.allocation.specs.Refusal.{IsOutOfMemory}
use Rattle.block_device.specs.Device.{Device, HasFailed}
use Rattle.fec_area.specs.declared.layout.Layout.{Layout}
use Rattle.fec_area.specs.declared.writing.ParityFault.{ParityFault}
use Rattle.fec_area.specs.declared.writing.ParityFault.TheVariants.{TooSmall, ReadOnly, Device as DeviceFailed, NoMemory}
use Rattle.fec_area.specs.Layouts.{IsProtected, largest_allocation, parity_sectors}
use Rattle.fec_area.specs.Rounds.{AreUnfailed, HasOneFailed}

-- no device failed, and if the devices are steady, the parity device holds the parity
pub record IsParityWritten (l : Layout) (data_dev hash_dev parity_dev data_dev' hash_dev' parity_dev' : Device) : Type 0 where
  pub unfailed : AreUnfailed data_dev hash_dev data_dev' hash_dev'
  pub parity_unfailed : parity_dev'.failures ≡ parity_dev.failures
  pub parity : IsTrue data_dev.steady → IsTrue hash_dev.steady → IsTrue parity_dev.steady → IsProtected l data_dev.image hash_dev.image parity_dev'.image

-- one of the three devices failed
abbrev pub HasAnyFailed : Device → Device → Device → Device → Device → Device → Type 0
HasAnyFailed data_dev hash_dev parity_dev data_dev' hash_dev' parity_dev' = HasOneFailed data_dev hash_dev data_dev' hash_dev' ⊎ HasFailed parity_dev parity_dev'

-- why the parity wasn't written, or not completely
abbrev pub IsParityCause : Layout → Device → Device → Device → Device → Device → Device → ParityFault → Type 0
IsParityCause l data_dev hash_dev parity_dev data_dev' hash_dev' parity_dev' (TooSmall needed) = (needed ≡ parity_sectors l) × (parity_dev.size < needed) × (parity_dev' ≡ parity_dev)
IsParityCause l data_dev hash_dev parity_dev data_dev' hash_dev' parity_dev' ReadOnly = (parity_dev.may_write ≡ false) × (parity_dev' ≡ parity_dev)
IsParityCause l data_dev hash_dev parity_dev data_dev' hash_dev' parity_dev' DeviceFailed = HasAnyFailed data_dev hash_dev parity_dev data_dev' hash_dev' parity_dev'
IsParityCause l data_dev hash_dev parity_dev data_dev' hash_dev' parity_dev' NoMemory = (parity_dev' ≡ parity_dev) × IsOutOfMemory largest_allocation

-- ---- calls, from the states of the three devices that a proof sees: first those before, then those after

-- one of the three devices failed
abbrev pub AnyFails : {D H P : Type 0} → (D → Device) → (H → Device) → (P → Device) → D → H → P → D → H → P → Type 0
AnyFails data_state hash_state parity_state d h p d' h' p' = HasAnyFailed (data_state d) (hash_state h) (parity_state p) (data_state d') (hash_state h') (parity_state p')

-- the parity was written, and no device failed
abbrev pub WritesParity : {D H P : Type 0} → Layout → (D → Device) → (H → Device) → (P → Device) → D → H → P → D → H → P → Type 0
WritesParity l data_state hash_state parity_state d h p d' h' p' = IsParityWritten l (data_state d) (hash_state h) (parity_state p) (data_state d') (hash_state h') (parity_state p')

-- why the parity wasn't written, or not completely
abbrev pub FailsToWriteParity : {D H P : Type 0} → Layout → (D → Device) → (H → Device) → (P → Device) → D → H → P → D → H → P → ParityFault → Type 0
FailsToWriteParity l data_state hash_state parity_state d h p d' h' p' = IsParityCause l (data_state d) (hash_state h) (parity_state p) (data_state d') (hash_state h') (parity_state p')
