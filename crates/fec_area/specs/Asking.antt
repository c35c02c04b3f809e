-- The sectors that are read to reconstruct a lost block, by the devices' counters of reads.
use Rattle.std.specs.Prelude.{◌≡◌, ◌==◌, ◌&&◌, ℕ, zero, suc, ◌+◌, ◌-◌, ◌*◌, ◌/◌, ◌^◌, ◌<◌, ◌≤◌, Bool, not, IsTrue, List, nat_lt, count_by, if◌then◌else◌}
use Rattle.std.specs.List.{list_any, range_with_len}
use Rattle.block_device.specs.Device.{Device}
use Rattle.verity_format.specs.Blocks.{IsFullRead}
use Rattle.fec_area.specs.declared.code.Code.{Code}
use Rattle.fec_area.specs.declared.code.Gap.{Gap}
use Rattle.fec_area.specs.declared.layout.Layout.{Layout}
use Rattle.fec_area.specs.declared.restoring.LostBlock.{LostBlock}
use Rattle.fec_area.specs.Layouts.{covered_blocks, code_rounds}
use Rattle.fec_area.specs.Restoring.{is_beside}

abbrev pub is_among : List ℕ → ℕ → Bool
is_among numbers j = list_any (λ n. n == j) numbers

-- covered block j is another block of the same round that isn't known to be lost
abbrev pub is_kept : Layout → List ℕ → ℕ → ℕ → Bool
is_kept l lost index j = is_beside l index j && not (is_among lost j)

-- the number of such data blocks, and of such blocks of the hash device
unfoldable pub kept_data : Layout → List ℕ → ℕ → ℕ
kept_data l lost index = count_by (is_kept l lost index) (range_with_len 0 l.data_blocks)

unfoldable pub kept_hash : Layout → List ℕ → ℕ → ℕ
kept_hash l lost index = count_by (is_kept l lost index) (range_with_len l.data_blocks l.hash_blocks)

-- at most n sectors of a device were read; if the call succeeded, exactly n were, and the device didn't fail
pub record IsAskedFor (old : Device) (n : ℕ) (ok : Bool) (new : Device) : Type 0 where
  pub most : new.reads ≤ old.reads + n
  pub full : IsTrue ok → IsFullRead old n new

-- the sectors read from three devices
pub record AreAskedFor (n m k : ℕ) (ok : Bool) (data_dev hash_dev parity_dev data_dev' hash_dev' parity_dev' : Device) : Type 0 where
  pub of_data : IsAskedFor data_dev n ok data_dev'
  pub of_hash : IsAskedFor hash_dev m ok hash_dev'
  pub of_parity : IsAskedFor parity_dev k ok parity_dev'

-- on the image, at most as many sectors were read as the remaining blocks of the round have, and on the parity device
-- at most as many as the round's parity has; exactly as many if the call succeeded
abbrev pub AsksKept : {D H P : Type 0} → LostBlock → Bool → (D → Device) → (H → Device) → (P → Device) → D → H → P → D → H → P → Type 0
AsksKept sought ok data_state hash_state parity_state d h p d' h' p' =
    let l = sought.layout.now in
    let data_blocks = kept_data l sought.lost.now sought.index in
    let hash_blocks = kept_hash l sought.lost.now sought.index in
    AreAskedFor (data_blocks * (l.block / 512)) (hash_blocks * (l.block / 512)) (l.roots * (l.block / 512)) ok
    (data_state d) (hash_state h) (parity_state p) (data_state d') (hash_state h') (parity_state p')

-- at most n sectors of each of two devices were read
pub record AreReadWithin (n : ℕ) (data_dev hash_dev data_dev' hash_dev' : Device) : Type 0 where
  pub data_most : data_dev'.reads ≤ data_dev.reads + n
  pub hash_most : hash_dev'.reads ≤ hash_dev.reads + n

abbrev pub ReadsWithin : {D H : Type 0} → ℕ → (D → Device) → (H → Device) → D → H → D → H → Type 0
ReadsWithin n data_state hash_state d h d' h' = AreReadWithin n (data_state d) (hash_state h) (data_state d') (hash_state h')

-- ---- parts of the call

-- the number of sectors of covered block j on the data device, and on the hash device
abbrev pub sectors_on_data : Layout → ℕ → ℕ
sectors_on_data l j = if nat_lt j l.data_blocks then l.block / 512 else 0

abbrev pub sectors_on_hash : Layout → ℕ → ℕ
sectors_on_hash l j = if nat_lt j l.data_blocks then 0 else if nat_lt j (covered_blocks l) then l.block / 512 else 0

-- n sectors of a device were read, whether it failed or not; the counter is exact unless it overflows
pub record IsAsked (old : Device) (n : ℕ) (new : Device) : Type 0 where
  pub most : new.reads ≤ old.reads + n
  pub each : old.reads + n < 2 ^ 64 → new.reads ≡ old.reads + n

pub record AreAsked (n m : ℕ) (data_dev hash_dev data_dev' hash_dev' : Device) : Type 0 where
  pub of_data : IsAsked data_dev n data_dev'
  pub of_hash : IsAsked hash_dev m hash_dev'

-- the sectors of covered block j were read
abbrev pub AsksBlock : {D H : Type 0} → Layout → ℕ → (D → Device) → (H → Device) → D → H → D → H → Type 0
AsksBlock l j data_state hash_state d h d' h' = AreAsked (sectors_on_data l j) (sectors_on_hash l j) (data_state d) (hash_state h) (data_state d') (hash_state h')

-- the sectors of the block at position i of a round were read
abbrev pub AsksAt : {D H : Type 0} → Code → ℕ → ℕ → (D → Device) → (H → Device) → D → H → D → H → Type 0
AsksAt code round i = AsksBlock code.layout.now (i * code_rounds code.layout.now + round)

-- the number of sectors at position i of a round, or 0 if that position is lost
abbrev pub kept_at : (ℕ → ℕ) → Layout → ℕ → List ℕ → ℕ → ℕ
kept_at sectors l round places i = if is_among places i then 0 else sectors (i * code_rounds l + round)

abbrev pub AsksPlace : {D H : Type 0} → Gap → ℕ → (D → Device) → (H → Device) → D → H → D → H → Type 0
AsksPlace gap i data_state hash_state d h d' h' =
    AreAsked (kept_at (sectors_on_data gap.code.layout.now) gap.code.layout.now gap.round gap.places.now i) (kept_at (sectors_on_hash gap.code.layout.now) gap.code.layout.now gap.round gap.places.now i) (data_state d) (hash_state h) (data_state d') (hash_state h')

-- the sum f 0 + .. + f (n - 1)
unfoldable pub sum_to : (ℕ → ℕ) → ℕ → ℕ
sum_to f zero = 0
sum_to f (suc n) = sum_to f n + f n

-- the number of sectors at all positions of a round that aren't lost
abbrev pub kept_of : (ℕ → ℕ) → Layout → ℕ → List ℕ → ℕ
kept_of sectors l round places = sum_to (kept_at sectors l round places) (255 - l.roots)

abbrev pub AsksRound : {D H : Type 0} → Gap → Bool → (D → Device) → (H → Device) → D → H → D → H → Type 0
AsksRound gap ok data_state hash_state d h d' h' =
    IsAskedFor (data_state d) (kept_of (sectors_on_data gap.code.layout.now) gap.code.layout.now gap.round gap.places.now) ok (data_state d')
    × IsAskedFor (hash_state h) (kept_of (sectors_on_hash gap.code.layout.now) gap.code.layout.now gap.round gap.places.now) ok (hash_state h')

abbrev pub AsksForFirst : {D H P : Type 0} → Gap → Bool → (D → Device) → (H → Device) → (P → Device) → D → H → P → D → H → P → Type 0
AsksForFirst gap ok data_state hash_state parity_state d h p d' h' p' =
    AreAskedFor (kept_of (sectors_on_data gap.code.layout.now) gap.code.layout.now gap.round gap.places.now) (kept_of (sectors_on_hash gap.code.layout.now) gap.code.layout.now gap.round gap.places.now)
    (gap.code.layout.now.roots * (gap.code.layout.now.block / 512)) ok (data_state d) (hash_state h) (parity_state p) (data_state d') (hash_state h') (parity_state p')
