-- Rounds of codewords, summed position by position.
use Rattle.std.specs.Prelude.{◌≡◌, ◌⊎◌, ℕ, ◌+◌, ◌-◌, ◌*◌, ◌/◌, ◌%◌, ◌<◌, ◌≤◌, ◌≢◌, IsTrue, List, length, slice_index, EachIndex, bit_xor}
use Rattle.block_device.specs.Device.{Device, HasFailed}
use Rattle.verity_format.specs.Blocks.{AreOnlyRead}
use Rattle.reed_solomon.specs.Factors.{AreProducts, parity_places}
use Rattle.reed_solomon.specs.Field.{field_product}
use Rattle.fec_area.specs.declared.code.Code.{Code}
use Rattle.fec_area.specs.declared.code.Gap.{Gap}
use Rattle.fec_area.specs.declared.layout.Layout.{Layout}
use Rattle.fec_area.specs.Layouts.{IsLaidOn, IsParityOf, covered, message_byte, round_bytes, code_rounds}

-- neither of the two devices failed
pub record AreUnfailed (data_dev hash_dev data_dev' hash_dev' : Device) : Type 0 where
  pub data_kept : data_dev'.failures ≡ data_dev.failures
  pub hash_kept : hash_dev'.failures ≡ hash_dev.failures

-- the failure counters of both devices didn't decrease
pub record AreFailuresCounted (data_dev hash_dev data_dev' hash_dev' : Device) : Type 0 where
  pub data_more : data_dev.failures ≤ data_dev'.failures
  pub hash_more : hash_dev.failures ≤ hash_dev'.failures

-- one of the two devices failed
abbrev pub HasOneFailed : Device → Device → Device → Device → Type 0
HasOneFailed data_dev hash_dev data_dev' hash_dev' = HasFailed data_dev data_dev' ⊎ HasFailed hash_dev hash_dev'

-- both devices, or all three, never fail
abbrev pub BothNeverFail : Device → Device → Type 0
BothNeverFail data_dev hash_dev = IsTrue data_dev.never_fails × IsTrue hash_dev.never_fails

abbrev pub AllNeverFail : Device → Device → Device → Type 0
AllNeverFail data_dev hash_dev parity_dev = IsTrue data_dev.never_fails × IsTrue hash_dev.never_fails × IsTrue parity_dev.never_fails

-- ---- calls, from the states of the two devices that a proof sees: first those before, then those after

-- both devices were only read
abbrev pub OnlyReadsCovered : {D H : Type 0} → (D → Device) → (H → Device) → D → H → D → H → Type 0
OnlyReadsCovered data_state hash_state d h d' h' = AreOnlyRead (data_state d) (hash_state h) (data_state d') (hash_state h')

-- neither device failed
abbrev pub NeitherFails : {D H : Type 0} → (D → Device) → (H → Device) → D → H → D → H → Type 0
NeitherFails data_state hash_state d h d' h' = AreUnfailed (data_state d) (hash_state h) (data_state d') (hash_state h')

-- the failure counters of both devices didn't decrease
abbrev pub CountsFailures : {D H : Type 0} → (D → Device) → (H → Device) → D → H → D → H → Type 0
CountsFailures data_state hash_state d h d' h' = AreFailuresCounted (data_state d) (hash_state h) (data_state d') (hash_state h')

-- one of the two devices failed
abbrev pub OneFails : {D H : Type 0} → (D → Device) → (H → Device) → D → H → D → H → Type 0
OneFails data_state hash_state d h d' h' = HasOneFailed (data_state d) (hash_state h) (data_state d') (hash_state h')

-- ---- a position

-- the preconditions of adding the bytes at one position of a round: `count` sums for each codeword, and `count`
-- factors for each position
pub record CanAdd (code : Code) (data_dev hash_dev : Device) (round : ℕ) (block sums : List ℕ) : Type 0 where
  pub laid : IsLaidOn code.layout.now data_dev hash_dev
  pub few : code.count ≤ 255
  pub products_are : length code.products.now ≡ 255 * code.count
  pub round_is : round < code_rounds code.layout.now
  pub block_is : length block ≡ code.layout.now.block
  pub sums_are : length sums ≡ code.layout.now.block * code.count

-- to the sums of each codeword, the products of its byte at one position were added
abbrev pub AreProductsAdded : Layout → List (List ℕ) → List (List ℕ) → ℕ → List ℕ → ℕ → ℕ → List ℕ → List ℕ → Type 0
AreProductsAdded l data_image hash_image count products round place old new =
    EachIndex new (λ m. slice_index new m ≡ bit_xor (slice_index old m) (field_product (slice_index products (place * count + m % count)) (message_byte l data_image hash_image round (m / count) place)))

pub record IsPlaceAdded (l : Layout) (data_image hash_image : List (List ℕ)) (count : ℕ) (products : List ℕ) (round place : ℕ) (old new : List ℕ) : Type 0 where
  pub sums : AreProductsAdded l data_image hash_image count products round place old new
  pub bytes : (c : ℕ) → message_byte l data_image hash_image round c place < 256

-- if the devices are steady, the products were added
abbrev pub Adds : {D H : Type 0} → Code → (D → Device) → (H → Device) → D → H → ℕ → ℕ → List ℕ → List ℕ → Type 0
Adds code data_state hash_state d h round place old new =
    IsTrue (data_state d).steady → IsTrue (hash_state h).steady
    → IsPlaceAdded code.layout.now (data_state d).image (hash_state h).image code.count code.products.now round place old new

-- the preconditions of adding a position if some positions are lost: the factors are those that recover the lost
-- bytes
pub record CanAddKept (gap : Gap) (data_dev hash_dev : Device) (block sums : List ℕ) : Type 0 where
  pub can : CanAdd gap.code data_dev hash_dev gap.round block sums
  pub count_is : gap.code.count ≡ length gap.places.now
  pub products_are : AreProducts gap.places.now gap.code.products.now

-- if the devices are steady, the products were added; those of a lost position are 0
abbrev pub AddsKept : {D H : Type 0} → Gap → (D → Device) → (H → Device) → D → H → ℕ → List ℕ → List ℕ → Type 0
AddsKept gap data_state hash_state d h place old new =
    IsTrue (data_state d).steady → IsTrue (hash_state h).steady
    → AreProductsAdded gap.code.layout.now (data_state d).image (hash_state h).image (length gap.places.now) gap.code.products.now gap.round place old new

-- ---- a round

-- the preconditions of computing the parity of rounds
pub record CanSum (code : Code) (data_dev hash_dev : Device) (block parity : List ℕ) : Type 0 where
  pub laid : IsLaidOn code.layout.now data_dev hash_dev
  pub count_is : code.count ≡ code.layout.now.roots
  pub products_are : AreProducts (parity_places code.layout.now.roots) code.products.now
  pub block_is : length block ≡ code.layout.now.block
  pub parity_is : length parity ≡ round_bytes code.layout.now

-- if the devices are steady, the bytes are the round's parity
abbrev pub SumsUp : Code → Device → Device → ℕ → List ℕ → Type 0
SumsUp code data_dev hash_dev round parity = IsTrue data_dev.steady → IsTrue hash_dev.steady → IsParityOf code.layout.now data_dev.image hash_dev.image round parity

-- the preconditions of reconstructing the lost blocks of a round
pub record CanRestore (gap : Gap) (data_dev hash_dev : Device) (parity block sums : List ℕ) : Type 0 where
  pub laid : IsLaidOn gap.code.layout.now data_dev hash_dev
  pub lost_are : EachIndex gap.places.now (λ k. slice_index gap.places.now k < 255 - gap.code.layout.now.roots)
  pub enough : length gap.places.now ≤ gap.code.layout.now.roots
  pub count_is : gap.code.count ≡ length gap.places.now
  pub products_are : AreProducts gap.places.now gap.code.products.now
  pub round_is : gap.round < code_rounds gap.code.layout.now
  pub block_is : length block ≡ gap.code.layout.now.block
  pub parity_is : length parity ≡ round_bytes gap.code.layout.now
  pub sums_are : length sums ≡ gap.code.layout.now.block * length gap.places.now

-- a former image with this parity whose covered blocks of the round are the same except at the lost positions
pub record IsFormerly (l : Layout) (data_image hash_image former_data former_hash : List (List ℕ)) (round : ℕ) (parity lost : List ℕ) : Type 0 where
  pub stands : IsParityOf l former_data former_hash round parity
  pub same : (i : ℕ) → i < 255 - l.roots → ((k : ℕ) → k < length lost → slice_index lost k ≢ i) → covered l data_image hash_image (i * code_rounds l + round) ≡ covered l former_data former_hash (i * code_rounds l + round)

-- the sums are the lost blocks of every such former image: with n lost blocks, byte c of lost block k is at index c *
-- n + k
abbrev pub AreRestored : Layout → List (List ℕ) → List (List ℕ) → ℕ → List ℕ → List ℕ → List ℕ → Type 0
AreRestored l data_image hash_image round parity lost sums =
    (former_data former_hash : List (List ℕ)) → IsFormerly l data_image hash_image former_data former_hash round parity lost
    → (c k : ℕ) → c < l.block → k < length lost → slice_index sums (c * length lost + k) ≡ message_byte l former_data former_hash round c (slice_index lost k)

-- if the devices are steady, the sums are the lost blocks
abbrev pub Restores : Gap → Device → Device → List ℕ → List ℕ → Type 0
Restores gap data_dev hash_dev parity sums =
    IsTrue data_dev.steady → IsTrue hash_dev.steady → AreRestored gap.code.layout.now data_dev.image hash_dev.image gap.round parity gap.places.now sums
