-- What the hash blocks on the path to the last data block hold after their last used entries.
use Rattle.std.specs.Prelude.{◌≡◌, ◌⊎◌, ℕ, zero, suc, ◌+◌, ◌-◌, ◌*◌, ◌/◌, ◌<◌, ◌≤◌, Bool, true, false, IsTrue, List}
use Rattle.block_device.specs.Device.{Device}
use Rattle.tree_shape.specs.Shape.{ancestor, levels}
use Rattle.tree_path.specs.Path.{PathRecord, block_of, stored_block}
use Rattle.tree_path.specs.Steps.{HasReadAtMost}
use Rattle.tree_path.specs.Unused.{is_unused_zero}
use Rattle.tree_survey.specs.declared.unused.Unused.{Unused}
use Rattle.tree_survey.specs.declared.unused.Unused.TheVariants.{Nonzero, Unknown, Zero}
use Rattle.tree_survey.specs.Failing.{HasFailedRead, IsReadOver}
use Rattle.tree_survey.specs.Hashes.{is_zero_after_used}
use Rattle.tree_survey.specs.Surveys.{HasDigestAbove, IsWay, Tree}

-- the index of the last data block; the last hash block of each level is on the path to it
abbrev pub last_data : Tree → ℕ
last_data t = t.shape.blocks - 1

-- On a device the digests of the hash blocks from level l up on this path are stored in their parents, and the block of level l
-- isn't zero after its last used entry.
pub record IsNonzeroAt (t : Tree) (image : List (List ℕ)) (l : ℕ) : Type 0 where
  pub low : l < levels t.shape
  pub stand : (m : ℕ) → l ≤ m → m < levels t.shape → HasDigestAbove t image m (last_data t)
  pub nonzero : is_zero_after_used t.shape image l (last_data t) ≡ false

-- there is such a hash block, by what was read from a device
pub record IsNonzeroSeen (t : Tree) : Type 0 where
  pub l : ℕ
  pub path : PathRecord
  pub low : l < levels t.shape
  pub way : IsWay t (last_data t) l path
  pub nonzero : is_unused_zero t.shape l (ancestor t.shape (l + 1) (last_data t)) (block_of path l) ≡ false

-- there is such a block; on a steady device it is stored there
pub record FindsNonzero (t : Tree) (device : Device) : Type 0 where
  pub seen : IsNonzeroSeen t
  pub stored : IsTrue device.steady → (l : ℕ) × IsNonzeroAt t device.image l

-- on a steady device there is no such block, unless a read failed
abbrev pub FindsZerosAlone : Tree → Device → Device → Type 0
FindsZerosAlone t device device' = IsTrue device.steady → ((l : ℕ) → IsNonzeroAt t device.image l → ⊥) ⊎ HasFailedRead device device'

-- the digest of each block is stored in its parent, and each block is zero after its last used entry
pub record IsWayGood (t : Tree) (image : List (List ℕ)) : Type 0 where
  pub stand : (l : ℕ) → l < levels t.shape → HasDigestAbove t image l (last_data t)
  pub zeros : (l : ℕ) → l < levels t.shape → is_zero_after_used t.shape image l (last_data t) ≡ true

abbrev pub IsUnusedFound : Tree → Device → Device → Unused → Type 0
IsUnusedFound t device device' Zero = IsTrue device.steady → IsWayGood t device.image
IsUnusedFound t device device' Unknown = FindsZerosAlone t device device'
IsUnusedFound t device device' Nonzero = FindsNonzero t device

-- Each hash block on this path was read once, down to the first that doesn't verify or couldn't be read. `found` is what they
-- hold after their last used entries.
pub record IsUnusedRead (t : Tree) (device device' : Device) (found : Unused) : Type 0 where
  pub over : IsReadOver device device'
  pub few : HasReadAtMost device (levels t.shape * (t.shape.hash_block / 512)) device'
  pub found_is : IsUnusedFound t device device' found

-- ---- one function after another

-- From a level up the hash blocks on the path to data block i verify; on a steady device they are the stored ones. The block of
-- the level below doesn't verify, or couldn't be read.
pub record IsReadDown (t : Tree) (device device' : Device) (i good : ℕ) (p : PathRecord) : Type 0 where
  pub way : IsWay t i good p
  pub stored : IsTrue device.steady → (l : ℕ) → good ≤ l → l < levels t.shape → block_of p l ≡ stored_block t.shape device.image l i
  pub below : IsTrue device.steady → 0 < good → (HasDigestAbove t device.image (good - 1) i → ⊥) ⊎ HasFailedRead device device'

-- the hash blocks of a path from that level up are zero after their last used entries, or one of them isn't
abbrev pub AreZeroFrom : PathRecord → ℕ → ℕ → Bool → Type 0
AreZeroFrom p i good true = (l : ℕ) → good ≤ l → l < levels p.shape → is_unused_zero p.shape l (ancestor p.shape (l + 1) i) (block_of p l) ≡ true
AreZeroFrom p i good false = (l : ℕ) × ((good ≤ l) × ((l < levels p.shape) × (is_unused_zero p.shape l (ancestor p.shape (l + 1) i) (block_of p l) ≡ false)))

-- the result for hash blocks that verify
abbrev pub found_from : Bool → ℕ → Unused
found_from false good = Nonzero
found_from true zero = Zero
found_from true (suc n) = Unknown

-- the hash blocks on this path were read from a device, given by its state
abbrev pub IsUnusedReadBy : {H : Type 0} → (H → Device) → Tree → H → H → Unused → Type 0
IsUnusedReadBy state t h h' found = IsUnusedRead t (state h) (state h') found
