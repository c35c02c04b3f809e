-- The correction of a block by its codewords, in which some bytes may be wrong at unknown positions.
use Rattle.std.specs.Prelude.{◌≡◌, ◌⊎◌, ℕ, ◌-◌, ◌*◌, ◌/◌, ◌+◌, ◌<◌, ◌≤◌, Bool, true, false, List, [], ◌∷◌, ◌++◌}
use Rattle.allocation.specs.Refusal.{IsOutOfMemory}
use Rattle.block_device.specs.Call.{Call}
use Rattle.block_device.specs.Device.{Device}
use Rattle.fec_area.specs.declared.code.Suspect.{Suspect}
use Rattle.fec_area.specs.declared.layout.Layout.{Layout}
use Rattle.fec_area.specs.declared.restoring.LostBlock.{LostBlock}
use Rattle.fec_area.specs.declared.restoring.RestoreFault.{RestoreFault}
use Rattle.fec_area.specs.declared.restoring.RestoreFault.TheVariants.{TooManyLost, TooSmall, Device as DeviceFailed, NoMemory}
use Rattle.fec_area.specs.Asking.{AreReadWithin}
use Rattle.fec_area.specs.Given.{GivesAll, GivesFirst, round_indices}
use Rattle.fec_area.specs.Layouts.{code_rounds, covered_blocks, largest_allocation, parity_sectors}
use Rattle.fec_area.specs.Restoring.{AreUnasked}
use Rattle.fec_area.specs.Writing.{HasAnyFailed}

-- why a block wasn't corrected
abbrev pub IsCorrectCause : Layout → Device → Device → Device → Device → Device → Device → RestoreFault → Type 0
IsCorrectCause l data_dev hash_dev parity_dev data_dev' hash_dev' parity_dev' (TooManyLost count) = ⊥
IsCorrectCause l data_dev hash_dev parity_dev data_dev' hash_dev' parity_dev' (TooSmall needed) =
    (needed ≡ parity_sectors l) × (parity_dev.size < needed) × AreUnasked data_dev hash_dev parity_dev data_dev' hash_dev' parity_dev'
IsCorrectCause l data_dev hash_dev parity_dev data_dev' hash_dev' parity_dev' DeviceFailed = HasAnyFailed data_dev hash_dev parity_dev data_dev' hash_dev' parity_dev'
IsCorrectCause l data_dev hash_dev parity_dev data_dev' hash_dev' parity_dev' NoMemory = AreUnasked data_dev hash_dev parity_dev data_dev' hash_dev' parity_dev' × IsOutOfMemory largest_allocation

-- at most these sectors were read: of the image all blocks of a round and one of them again, and the round's parity
pub record AreReadToCorrect (l : Layout) (data_dev hash_dev parity_dev data_dev' hash_dev' parity_dev' : Device) : Type 0 where
  pub image : AreReadWithin ((256 - l.roots) * (l.block / 512)) data_dev hash_dev data_dev' hash_dev'
  pub parity : parity_dev'.reads ≤ parity_dev.reads + l.roots * (l.block / 512)

-- All blocks of the round were read, each once, and then the block itself; or, if a read failed, no others than these up to that one.
-- If the parity couldn't be read, none was.
abbrev pub ReadsRound : {D H : Type 0} → (D → Call → D → Type 0) → (H → Call → H → Type 0) → Layout → ℕ → ℕ → D → H → D → H → Bool → Type 0
ReadsRound asks does l round index d h d' h' true = GivesAll asks does l (round_indices l round ++ index ∷ []) (λ data_image hash_image. Unit {0}) d h d' h'
ReadsRound asks does l round index d h d' h' false = ((d' ≡ d) × (h' ≡ h)) ⊎ GivesFirst asks does l (round_indices l round ++ index ∷ []) d h d' h'

-- ---- calls, from the states of the three devices that a proof sees: first those before, then those after

-- why a block wasn't corrected
abbrev pub FailsToCorrect : {D H P : Type 0} → LostBlock → (D → Device) → (H → Device) → (P → Device) → D → H → P → D → H → P → RestoreFault → Type 0
FailsToCorrect sought data_state hash_state parity_state d h p d' h' p' =
    IsCorrectCause sought.layout.now (data_state d) (hash_state h) (parity_state p) (data_state d') (hash_state h') (parity_state p')

-- at most the sectors of a round, its parity and the block were read
abbrev pub ReadsToCorrect : {D H P : Type 0} → Layout → (D → Device) → (H → Device) → (P → Device) → D → H → P → D → H → P → Type 0
ReadsToCorrect l data_state hash_state parity_state d h p d' h' p' = AreReadToCorrect l (data_state d) (hash_state h) (parity_state p) (data_state d') (hash_state h') (parity_state p')

-- ---- parts of the call

-- the round, the index and the position of a block are within their bounds
pub record IsWithinRound (suspect : Suspect) : Type 0 where
  pub round_is : suspect.round < code_rounds suspect.code.layout.now
  pub index_is : suspect.index < covered_blocks suspect.code.layout.now
  pub place_is : suspect.place < 255
