-- The reconstruction of a lost block.
use Rattle.std.specs.Prelude.{◌≡◌, ◌≢◌, ◌⊎◌, ◌==◌, ◌&&◌, ℕ, ◌+◌, ◌-◌, ◌/◌, ◌%◌, ◌<◌, Bool, not, IsTrue, List, length, nat_lt, slice_index, EachIndex, count_by}
use Rattle.allocation.specs.Refusal.{IsOutOfMemory}
use Rattle.block_device.specs.Device.{Device}
use Rattle.verity_format.specs.Blocks.{block_at}
use Rattle.fec_area.specs.declared.code.Gap.{Gap}
use Rattle.fec_area.specs.declared.layout.Layout.{Layout}
use Rattle.fec_area.specs.declared.restoring.LostBlock.{LostBlock}
use Rattle.fec_area.specs.declared.restoring.RestoreFault.{RestoreFault}
use Rattle.fec_area.specs.declared.restoring.RestoreFault.TheVariants.{TooManyLost, TooSmall, Device as DeviceFailed, NoMemory}
use Rattle.fec_area.specs.Layouts.{IsLayout, IsParityOf, IsProtected, covered, covered_blocks, largest_allocation, message_byte, parity_sectors, round_bytes, code_rounds}
use Rattle.fec_area.specs.Rounds.{AllNeverFail, IsFormerly}
use Rattle.fec_area.specs.Writing.{HasAnyFailed}

-- the round of a covered block
abbrev pub round_of : Layout → ℕ → ℕ
round_of l index = index % code_rounds l

-- another covered block of the same round
abbrev pub is_beside : Layout → ℕ → ℕ → Bool
is_beside l index j = nat_lt j (covered_blocks l) && (j % code_rounds l == round_of l index) && not (j == index)

-- the number of lost blocks in the round of `index`, including that block
abbrev pub lost_count : Layout → List ℕ → ℕ → ℕ
lost_count l lost index = count_by (is_beside l index) lost + 1

abbrev pub IsAmong : List ℕ → ℕ → Type 0
IsAmong lost j = (k : ℕ) × ((k < length lost) × (slice_index lost k ≡ j))

-- a former image in which the block is whole, with this parity in the block's round; its other blocks of the round
-- that aren't known to be lost are those of the present image
pub record IsBefore (l : Layout) (data_image hash_image former_data former_hash : List (List ℕ)) (parity lost : List ℕ) (index : ℕ) : Type 0 where
  pub whole : length (covered l former_data former_hash index) ≡ l.block
  pub stands : IsParityOf l former_data former_hash (round_of l index) parity
  pub same : (j : ℕ) → IsTrue (is_beside l index j) → (IsAmong lost j → ⊥) → covered l data_image hash_image j ≡ covered l former_data former_hash j

-- the bytes are the block of every such former image, given that parity
abbrev pub IsRestoredBy : Layout → List (List ℕ) → List (List ℕ) → List ℕ → List ℕ → ℕ → List ℕ → Type 0
IsRestoredBy l data_image hash_image parity lost index bytes =
    (former_data former_hash : List (List ℕ)) → IsBefore l data_image hash_image former_data former_hash parity lost index → bytes ≡ covered l former_data former_hash index

-- given the stored parity
abbrev pub IsMadeAgain : Layout → List (List ℕ) → List (List ℕ) → List (List ℕ) → List ℕ → ℕ → List ℕ → Type 0
IsMadeAgain l data_image hash_image parity_image lost index bytes = IsRestoredBy l data_image hash_image (block_at parity_image (round_bytes l) (round_of l index)) lost index bytes

-- ---- the call

-- none of the three devices was accessed
pub record AreUnasked (data_dev hash_dev parity_dev data_dev' hash_dev' parity_dev' : Device) : Type 0 where
  pub data_same : data_dev' ≡ data_dev
  pub hash_same : hash_dev' ≡ hash_dev
  pub parity_same : parity_dev' ≡ parity_dev

-- why a block wasn't reconstructed
abbrev pub IsRestoreCause : Layout → List ℕ → ℕ → Device → Device → Device → Device → Device → Device → RestoreFault → Type 0
IsRestoreCause l lost index data_dev hash_dev parity_dev data_dev' hash_dev' parity_dev' (TooManyLost count) =
    (count ≡ lost_count l lost index) × (l.roots < count) × AreUnasked data_dev hash_dev parity_dev data_dev' hash_dev' parity_dev'
IsRestoreCause l lost index data_dev hash_dev parity_dev data_dev' hash_dev' parity_dev' (TooSmall needed) =
    (needed ≡ parity_sectors l) × (parity_dev.size < needed) × AreUnasked data_dev hash_dev parity_dev data_dev' hash_dev' parity_dev'
IsRestoreCause l lost index data_dev hash_dev parity_dev data_dev' hash_dev' parity_dev' DeviceFailed = HasAnyFailed data_dev hash_dev parity_dev data_dev' hash_dev' parity_dev'
IsRestoreCause l lost index data_dev hash_dev parity_dev data_dev' hash_dev' parity_dev' NoMemory = AreUnasked data_dev hash_dev parity_dev data_dev' hash_dev' parity_dev' × IsOutOfMemory largest_allocation

-- if the devices are steady, the bytes are the lost block
abbrev pub MakesAgain : LostBlock → Device → Device → Device → List ℕ → Type 0
MakesAgain sought data_dev hash_dev parity_dev bytes =
    IsTrue data_dev.steady → IsTrue hash_dev.steady → IsTrue parity_dev.steady
    → IsMadeAgain sought.layout.now data_dev.image hash_dev.image parity_dev.image sought.lost.now sought.index bytes

-- the cause isn't a device failure if none of the three devices ever fails
abbrev pub IsOtherCause : Device → Device → Device → RestoreFault → Type 0
IsOtherCause data_dev hash_dev parity_dev fault = AllNeverFail data_dev hash_dev parity_dev → fault ≢ DeviceFailed

-- why a block wasn't reconstructed, from the states of the three devices before and after the call
abbrev pub FailsToRestore : {D H P : Type 0} → LostBlock → (D → Device) → (H → Device) → (P → Device) → D → H → P → D → H → P → RestoreFault → Type 0
FailsToRestore sought data_state hash_state parity_state d h p d' h' p' =
    IsRestoreCause sought.layout.now sought.lost.now sought.index (data_state d) (hash_state h) (parity_state p) (data_state d') (hash_state h') (parity_state p')

-- ---- parts of the call

-- the position of the block, or of another lost block of its round
abbrev pub IsLostPlace : Layout → List ℕ → ℕ → ℕ → Type 0
IsLostPlace l lost index place = (place ≡ index / code_rounds l) ⊎ ((k : ℕ) × ((k < length lost) × (IsTrue (is_beside l index (slice_index lost k)) × (slice_index lost k / code_rounds l ≡ place))))

-- the positions of the lost blocks of the round, that of the block itself first
pub record AreLostPlaces (l : Layout) (lost : List ℕ) (index : ℕ) (places : List ℕ) : Type 0 where
  pub count : length places ≡ lost_count l lost index
  pub own : slice_index places 0 ≡ index / code_rounds l
  pub within : EachIndex places (λ k. slice_index places k < 255 - l.roots)
  pub each : EachIndex lost (λ k. IsTrue (is_beside l index (slice_index lost k)) → IsAmong places (slice_index lost k / code_rounds l))
  pub alone : EachIndex places (λ k. IsLostPlace l lost index (slice_index places k))

-- the bytes are the block at the first of these positions in every former image with this parity that has the same
-- blocks at all other positions of the round
abbrev pub IsFirstRestored : Layout → List (List ℕ) → List (List ℕ) → ℕ → List ℕ → List ℕ → List ℕ → Type 0
IsFirstRestored l data_image hash_image round parity places bytes =
    (former_data former_hash : List (List ℕ)) → IsFormerly l data_image hash_image former_data former_hash round parity places
    → EachIndex bytes (λ c. slice_index bytes c ≡ message_byte l former_data former_hash round c (slice_index places 0))

-- if the devices are steady, the bytes are that block, by the parity stored on the third device
abbrev pub RestoresFirst : Gap → Device → Device → Device → List ℕ → Type 0
RestoresFirst gap data_dev hash_dev parity_dev bytes =
    IsTrue data_dev.steady → IsTrue hash_dev.steady → IsTrue parity_dev.steady
    → IsFirstRestored gap.code.layout.now data_dev.image hash_dev.image gap.round (block_at parity_dev.image (round_bytes gap.code.layout.now) gap.round) gap.places.now bytes

-- ---- the law

-- all blocks of two images that aren't known to be lost are the same
abbrev pub AreSameElsewhere : Layout → List (List ℕ) → List (List ℕ) → List (List ℕ) → List (List ℕ) → List ℕ → Type 0
AreSameElsewhere l data_image hash_image former_data former_hash lost =
    (j : ℕ) → j < covered_blocks l → (IsAmong lost j → ⊥) → covered l data_image hash_image j ≡ covered l former_data former_hash j

-- a block that is reconstructed by the parity of a whole former image is the block of that image
abbrev pub LostBlocksComeBack : Type 0
LostBlocksComeBack =
    (l : Layout) → IsLayout l → (data_image hash_image former_data former_hash parity_image : List (List ℕ)) → (lost bytes : List ℕ) → (index : ℕ) → index < covered_blocks l
    → length (covered l former_data former_hash index) ≡ l.block → IsProtected l former_data former_hash parity_image → AreSameElsewhere l data_image hash_image former_data former_hash lost
    → IsMadeAgain l data_image hash_image parity_image lost index bytes → bytes ≡ covered l former_data former_hash index
