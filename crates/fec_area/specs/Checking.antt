-- The result of comparing parity with the parity stored on a device.
use Rattle.std.specs.Prelude.{◌≡◌, ℕ, ◌<◌, IsTrue, List, Option, Some, None}
use Rattle.allocation.specs.Refusal.{IsOutOfMemory}
use Rattle.block_device.specs.Device.{Device}
use Rattle.verity_format.specs.Blocks.{block_at}
use Rattle.fec_area.specs.declared.code.Code.{Code}
use Rattle.fec_area.specs.declared.layout.Layout.{Layout}
use Rattle.fec_area.specs.declared.writing.ParityFault.{ParityFault}
use Rattle.fec_area.specs.declared.writing.ParityFault.TheVariants.{TooSmall, ReadOnly, Device as DeviceFailed, NoMemory}
use Rattle.fec_area.specs.Layouts.{IsParityOf, IsProtected, largest_allocation, parity_sectors, round_bytes, code_rounds}
use Rattle.fec_area.specs.Writing.{HasAnyFailed}

-- the stored parity of each round is right, or this is the first round whose parity isn't
abbrev pub IsParityFound : Layout → List (List ℕ) → List (List ℕ) → List (List ℕ) → Option ℕ → Type 0
IsParityFound l data_image hash_image parity_image None = IsProtected l data_image hash_image parity_image
IsParityFound l data_image hash_image parity_image (Some round) =
    (round < code_rounds l) × ((r : ℕ) → r < round → IsParityOf l data_image hash_image r (block_at parity_image (round_bytes l) r)) × (IsParityOf l data_image hash_image round (block_at parity_image (round_bytes l) round) → ⊥)

-- the result is right if the devices are steady
abbrev pub IsChecked : Layout → Device → Device → Device → Option ℕ → Type 0
IsChecked l data_dev hash_dev parity_dev found = IsTrue data_dev.steady → IsTrue hash_dev.steady → IsTrue parity_dev.steady → IsParityFound l data_dev.image hash_dev.image parity_dev.image found

-- why the parity wasn't compared
abbrev pub IsCheckCause : Layout → Device → Device → Device → Device → Device → Device → ParityFault → Type 0
IsCheckCause l data_dev hash_dev parity_dev data_dev' hash_dev' parity_dev' (TooSmall needed) = (needed ≡ parity_sectors l) × (parity_dev.size < needed) × (parity_dev' ≡ parity_dev)
IsCheckCause l data_dev hash_dev parity_dev data_dev' hash_dev' parity_dev' ReadOnly = ⊥
IsCheckCause l data_dev hash_dev parity_dev data_dev' hash_dev' parity_dev' DeviceFailed = HasAnyFailed data_dev hash_dev parity_dev data_dev' hash_dev' parity_dev'
IsCheckCause l data_dev hash_dev parity_dev data_dev' hash_dev' parity_dev' NoMemory = (parity_dev' ≡ parity_dev) × IsOutOfMemory largest_allocation

-- ---- the call, from the states of the three devices that a proof sees: first those before, then those after

-- the result of comparing the parity
abbrev pub Checks : {D H P : Type 0} → Layout → (D → Device) → (H → Device) → (P → Device) → D → H → P → Option ℕ → Type 0
Checks l data_state hash_state parity_state d h p = IsChecked l (data_state d) (hash_state h) (parity_state p)

abbrev pub ChecksBy : {D H P : Type 0} → Code → (D → Device) → (H → Device) → (P → Device) → D → H → P → Option ℕ → Type 0
ChecksBy code data_state hash_state parity_state d h p = IsChecked code.layout.now (data_state d) (hash_state h) (parity_state p)

-- why the parity wasn't compared
abbrev pub FailsToCheck : {D H P : Type 0} → Layout → (D → Device) → (H → Device) → (P → Device) → D → H → P → D → H → P → ParityFault → Type 0
FailsToCheck l data_state hash_state parity_state d h p d' h' p' = IsCheckCause l (data_state d) (hash_state h) (parity_state p) (data_state d') (hash_state h') (parity_state p')
