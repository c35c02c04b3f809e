-- Where the bytes of a block are sought, and what a read of them proves.
use Rattle.std.specs.Prelude.{◌≡◌, ◌≢◌, ◌⊎◌, ℕ, ◌+◌, ◌-◌, ◌/◌, ◌<◌, ◌≤◌, IsTrue, List, length, map}
use Rattle.std.specs.List.{concat, slice_index_or}
use Rattle.block_device.specs.Device.{Device, run_of}
use Rattle.tree_shape.specs.Digests.{digest}
use Rattle.tree_survey.specs.Failing.{HasFailedRead}
use Rattle.verity_format.specs.Blocks.{IsOnlyRead}

-- the expected bytes: so many sectors, with that digest
pub record Wanted : Type 0 where
  pub salt : List ℕ
  pub digest_is : List ℕ
  pub sectors : ℕ

abbrev pub wanted : List ℕ → List ℕ → ℕ → Wanted
wanted salt digest_is sectors = record { salt = salt; digest_is = digest_is; sectors = sectors }

-- the expected bytes of a buffer
abbrev pub due : List ℕ → List ℕ → List ℕ → Wanted
due salt digest_is block = wanted salt digest_is (length block / 512)

-- n sectors of a device from the first on, joined
abbrev pub bytes_on_device : Device → ℕ → ℕ → List ℕ
bytes_on_device device first n = concat (run_of device.image first n)

-- these are the expected bytes; on a steady device they are stored there
pub record IsThere (device : Device) (first : ℕ) (w : Wanted) (bytes : List ℕ) : Type 0 where
  pub good : digest w.salt bytes ≡ w.digest_is
  pub stand : IsTrue device.steady → bytes ≡ bytes_on_device device first w.sectors

-- other bytes were read; on a steady device they are stored there
pub record IsOther (device : Device) (first : ℕ) (w : Wanted) : Type 0 where
  pub bytes : List ℕ
  pub other : digest w.salt bytes ≢ w.digest_is
  pub stand : IsTrue device.steady → bytes ≡ bytes_on_device device first w.sectors

-- the expected bytes weren't read: the device failed, and isn't one that never fails, or it has other bytes
abbrev pub IsBad : Device → ℕ → Wanted → Device → Type 0
IsBad old first w new = HasFailedRead old new ⊎ IsOther old first w

-- the expected bytes weren't read from a device, or it ends before them
abbrev pub IsWithout : Device → ℕ → Wanted → Device → Type 0
IsWithout old first w new = (old.size < first + w.sectors) ⊎ IsBad old first w new

-- each of some devices was only read, and its failure counter didn't decrease
pub record AreEachRead (old new : List Device) : Type 0 where
  pub count : length new ≡ length old
  pub each : (j : ℕ) → j < length old → (d : Device) → IsOnlyRead (slice_index_or old j d) (slice_index_or new j d)
  pub more : (j : ℕ) → j < length old → (d : Device) → (slice_index_or old j d).failures ≤ (slice_index_or new j d).failures

-- copy n, counted from 1, has the bytes
pub record AreIn (copies : List Device) (first : ℕ) (w : Wanted) (n : ℕ) (bytes : List ℕ) : Type 0 where
  pub some : 0 < n
  pub inside : n ≤ length copies
  pub there : (d : Device) → IsThere (slice_index_or copies (n - 1) d) first w bytes

-- the bytes weren't found in the first k copies; these are the copies before and after
abbrev pub AreNotIn : List Device → List Device → ℕ → Wanted → ℕ → Type 0
AreNotIn copies copies' first w k = (j : ℕ) → j < k → (d : Device) → IsWithout (slice_index_or copies j d) first w (slice_index_or copies' j d)

-- they were found in no copy
abbrev pub AreInNone : List Device → List Device → ℕ → Wanted → Type 0
AreInNone copies copies' first w = AreNotIn copies copies' first w (length copies)

-- ---- in terms of the arguments of functions; `state` gives the devices

-- the expected bytes weren't read
abbrev pub FindsBad : {B : Type 0} → (B → Device) → B → B → ℕ → Wanted → Type 0
FindsBad state old new first w = IsBad (state old) first w (state new)

-- copy n has the bytes
abbrev pub HasCopy : {C : Type 0} → (C → Device) → List C → ℕ → Wanted → List ℕ → ℕ → Type 0
HasCopy state copies first w bytes n = AreIn (map state copies) first w n bytes

-- the device ends before the bytes, or they weren't read
abbrev pub FindsNone : {B : Type 0} → (B → Device) → B → B → ℕ → Wanted → Type 0
FindsNone state old new first w = IsWithout (state old) first w (state new)

-- the bytes were found in none of the copies
abbrev pub HasNoCopy : {C : Type 0} → (C → Device) → List C → List C → ℕ → Wanted → Type 0
HasNoCopy state copies copies' first w = AreNotIn (map state copies) (map state copies') first w (length copies)
