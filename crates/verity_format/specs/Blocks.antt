-- Blocks of a device, and the effects of calls that only read or only write.
use Rattle.std.specs.Prelude.{◌≡◌, ℕ, ◌+◌, ◌*◌, ◌/◌, ◌^◌, ◌<◌, IsTrue, List, length, map, drop}
use Rattle.std.specs.List.{concat, range_with_len}
use Rattle.block_device.specs.Device.{Device, IsSameDevice, run_of}

-- block i of that size: its sectors concatenated
unfoldable pub block_at : List (List ℕ) → ℕ → ℕ → List ℕ
block_at image size i = concat (run_of image (i * (size / 512)) (size / 512))

-- n blocks of that size from block `first` on
abbrev pub blocks_at : List (List ℕ) → ℕ → ℕ → ℕ → List (List ℕ)
blocks_at image size first n = map (block_at image size) (range_with_len first n)

-- only reads were called: nothing was written
pub record IsOnlyRead (old new : Device) : Type 0 where
  pub same : IsSameDevice old new
  pub writes : new.writes ≡ old.writes
  pub image : IsTrue old.steady → new.image ≡ old.image

-- only reads were called, of n sectors in all, and none failed; the counter of reads is exact unless it overflows
pub record IsFullRead (old : Device) (n : ℕ) (new : Device) : Type 0 where
  pub read : IsOnlyRead old new
  pub reads : old.reads + n < 2 ^ 64 → new.reads ≡ old.reads + n
  pub failures : new.failures ≡ old.failures

-- only writes were called, each within the first n sectors
pub record IsOnlyWritten (old : Device) (n : ℕ) (new : Device) : Type 0 where
  pub same : IsSameDevice old new
  pub reads : new.reads ≡ old.reads
  pub after : IsTrue old.steady → drop n new.image ≡ drop n old.image

-- both devices were only read
pub record AreOnlyRead (data_dev hash_dev data_dev' hash_dev' : Device) : Type 0 where
  pub data_read : IsOnlyRead data_dev data_dev'
  pub hash_read : IsOnlyRead hash_dev hash_dev'

-- block i of that size was read once; if the device is steady, it is the block stored there
pub record IsBlockRead (old : Device) (size i : ℕ) (block : List ℕ) (new : Device) : Type 0 where
  pub bytes : IsTrue old.steady → block ≡ block_at old.image size i
  pub full : IsFullRead old (size / 512) new

-- ---- calls, from the device states that a proof sees: first those before, then those after

-- both devices were only read
abbrev pub OnlyReads : {D H : Type 0} → (D → Device) → (H → Device) → D → H → D → H → Type 0
OnlyReads data_state hash_state d h d' h' = AreOnlyRead (data_state d) (hash_state h) (data_state d') (hash_state h')

abbrev pub BothOnlyRead : {D H : Type 0} → (D → Device) → (H → Device) → D → H → D → H → Type 0
BothOnlyRead data_state hash_state d h d' h' = IsOnlyRead (data_state d) (data_state d') × IsOnlyRead (hash_state h) (hash_state h')

-- a block of the buffer's length was read into the buffer
abbrev pub ReadsBlock : {D : Type 0} → (D → Device) → D → D → ℕ → List ℕ → List ℕ → Type 0
ReadsBlock state d d' index buffer block = IsBlockRead (state d) (length buffer) index block (state d')
