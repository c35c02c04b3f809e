-- Hash blocks that aren't valid: their digest isn't stored in their parent, or they aren't zero after their last used entry.
use Rattle.std.specs.Prelude.{◌≡◌, ◌⊎◌, ℕ, zero, suc, ◌+◌, ◌-◌, ◌*◌, ◌^◌, ◌<◌, ◌≤◌, ◌&&◌, Bool, true, false, IsTrue, List, [], ◌∷◌, ◌++◌, Contains, Option, length}
use Rattle.std.specs.List.{flat_map}
use Rattle.std.specs.Str.{bytes_eq}
use Rattle.std.specs.Io.KnownBytes.{Appends}
use Rattle.block_device.specs.Device.{Device}
use Rattle.tree_shape.specs.Digests.{digest}
use Rattle.tree_shape.specs.Shape.{ShapeRecord, IsShape, ancestor, level_blocks, levels, per_block}
use Rattle.verity_format.specs.Image.{tree_sectors}
use Rattle.tree_path.specs.Path.{PathRecord, IsPathOf, block_of, stored_block, stored_digest}
use Rattle.tree_path.specs.Unused.{is_unused_zero}
use Rattle.runs.specs.Texts.{hash_text}
use Rattle.tree_survey.specs.Failing.{HasFailedRead, HasFailedTimes}
use Rattle.tree_survey.specs.Surveys.{Tree}

-- a hash block by its level, counted from the data up, and its index in that level
pub record HashBlock : Type 0 where
  pub level : ℕ
  pub number : ℕ

-- `hash LEVEL INDEX`
abbrev pub hash_line : HashBlock → List ℕ
hash_line b = hash_text b.level b.number

-- the line for a level and an index
abbrev pub hash_line_at : ℕ → ℕ → List ℕ
hash_line_at level number = hash_line (record { level = level; number = number })

abbrev pub hash_lines : List HashBlock → List ℕ
hash_lines blocks = flat_map hash_line blocks

-- no hash block is listed
abbrev pub is_whole : List HashBlock → Bool
is_whole [] = true
is_whole (b ∷ more) = false

-- the first data block below hash block n of level l
abbrev pub first_below : ShapeRecord → ℕ → ℕ → ℕ
first_below s l n = n * per_block s ^ (l + 1)

-- the hash block below level m on the path to data block i
abbrev pub hash_block_beneath : ShapeRecord → ℕ → ℕ → HashBlock
hash_block_beneath s m i = record { level = m - 1; number = ancestor s m i }

-- one of these hash blocks is on the path to data block i
abbrev pub IsUnderOne : ShapeRecord → List HashBlock → ℕ → Type 0
IsUnderOne s blocks i = (m : ℕ) × ((0 < m) × (m ≤ levels s) × Contains blocks (hash_block_beneath s m i))

-- the digest of the hash block of level l on the path to data block i is stored in its parent
abbrev pub has_digest_above : Tree → List (List ℕ) → ℕ → ℕ → Bool
has_digest_above t image l i = bytes_eq (digest t.salt (stored_block t.shape image l i)) (stored_digest t.shape t.root image i (l + 1))

-- the hash block is zero after its last used entry
abbrev pub is_zero_after_used : ShapeRecord → List (List ℕ) → ℕ → ℕ → Bool
is_zero_after_used s image l i = is_unused_zero s l (ancestor s (l + 1) i) (stored_block s image l i)

-- both hold, as for each hash block of a tree that was formatted
abbrev pub is_good_on : Tree → List (List ℕ) → ℕ → ℕ → Bool
is_good_on t image l i = has_digest_above t image l i && is_zero_after_used t.shape image l i

abbrev pub with_bad : Bool → HashBlock → List HashBlock → List HashBlock
with_bad true b blocks = blocks
with_bad false b blocks = blocks ++ b ∷ []

-- those of the first n hash blocks of level l that aren't valid
abbrev pub bad_of_level : Tree → List (List ℕ) → ℕ → ℕ → List HashBlock
bad_of_level t image l zero = []
bad_of_level t image l (suc n) = with_bad (is_good_on t image l (first_below t.shape l n)) (record { level = l; number = n }) (bad_of_level t image l n)

-- those of the k highest levels, in their order on the device: from the top down
abbrev pub bad_of_levels : Tree → List (List ℕ) → ℕ → List HashBlock
bad_of_levels t image zero = []
bad_of_levels t image (suc k) = bad_of_levels t image k ++ bad_of_level t image (levels t.shape - suc k) (level_blocks t.shape (levels t.shape - suc k))

-- the second list contains the first, in the same order
abbrev pub AreWithinHashes : List HashBlock → List HashBlock → Type 0
AreWithinHashes [] ys = Unit {0}
AreWithinHashes (x ∷ xs) [] = ⊥
AreWithinHashes (x ∷ xs) (y ∷ ys) = ((x ≡ y) × AreWithinHashes xs ys) ⊎ AreWithinHashes (x ∷ xs) ys

-- So many of the listed hash blocks aren't bad ones. For each of them a call failed, which is counted.
pub record HasUnreadMore (device device' : Device) (bad_ones bad : List HashBlock) : Type 0 where
  pub unread : ℕ
  pub count : length bad ≡ length bad_ones + unread
  pub failed : HasFailedTimes device unread device'

-- Hash blocks that were read. On a steady device each of the bad ones is among them; the two lists are equal, or a read failed,
-- and at most as many others are listed as calls failed.
pub record AreBad (bad_ones : List (List ℕ) → List HashBlock) (device device' : Device) (bad : List HashBlock) : Type 0 where
  pub all : IsTrue device.steady → AreWithinHashes (bad_ones device.image) bad
  pub stored : IsTrue device.steady → (bad ≡ bad_ones device.image) ⊎ HasFailedRead device device'
  pub few : IsTrue device.steady → HasUnreadMore device device' (bad_ones device.image) bad

-- Hash blocks of the tree. On a steady device all that aren't valid are listed, and no others unless a read failed.
pub record HashesFound (t : Tree) (device device' : Device) : Type 0 where
  pub bad : List HashBlock
  pub are : AreBad (λ image. bad_of_levels t image (levels t.shape)) device device' bad

-- ---- one block after another

abbrev pub tree_of_path : PathRecord → Tree
tree_of_path p = record { shape = p.shape; salt = p.salt; root = p.root }

pub record CanCompareHashes (p : PathRecord) (shape : ShapeRecord) (device : Device) : Type 0 where
  pub valid : IsShape p.shape
  pub shape_is : shape ≡ p.shape
  pub fits : tree_sectors p.shape ≤ device.size

-- The parent of the hash block of level l on the path to data block i was read, if there is one, or couldn't be read.
pub record IsAbove (old new : PathRecord) (device device' : Device) (l i : ℕ) (read : Bool) : Type 0 where
  pub same : IsPathOf old.shape old.salt old.root new
  pub stored : read ≡ true → IsTrue device.steady → l + 1 < levels old.shape → block_of new (l + 1) ≡ stored_block old.shape device.image (l + 1) i
  pub failed : read ≡ false → HasFailedRead device device'

-- The parent and the hash block of level l were compared. If one of the two couldn't be read, the block isn't found valid.
pub record IsCompared (old new : PathRecord) (device device' : Device) (l i : ℕ) (good : Bool) : Type 0 where
  pub same : IsPathOf old.shape old.salt old.root new
  pub stored : IsTrue device.steady → (good ≡ is_good_on (tree_of_path old) device.image l i) ⊎ ((good ≡ false) × HasFailedRead device device')

pub record SaysLevel (old new : PathRecord) (device device' : Device) (l : ℕ) (printed printed' : Option (List ℕ)) (whole : Bool) : Type 0 where
  pub same : IsPathOf old.shape old.salt old.root new
  pub bad : List HashBlock
  pub are : AreBad (λ image. bad_of_level (tree_of_path old) image l (level_blocks old.shape l)) device device' bad
  pub whole_is : whole ≡ is_whole bad
  pub printed_are : Appends printed printed' (hash_lines bad)

pub record TellsHashes (t : Tree) (device device' : Device) (printed printed' : Option (List ℕ)) (whole : Bool) : Type 0 where
  pub found : HashesFound t device device'
  pub whole_is : whole ≡ is_whole found.bad
  pub printed_are : Appends printed printed' (hash_lines found.bad)

-- the hash blocks of a level, or of the tree, that aren't valid were reported, as a proof sees the device and the listing
abbrev pub TellsBad : {H L : Type 0} → (H → Device) → (L → Option (List ℕ)) → PathRecord → PathRecord → H → H → ℕ → L → L → Bool → Type 0
TellsBad state told old new h h' level l l' whole = SaysLevel old new (state h) (state h') level (told l) (told l') whole

abbrev pub TellsTree : {H L : Type 0} → (H → Device) → (L → Option (List ℕ)) → Tree → H → H → L → L → Bool → Type 0
TellsTree state told t h h' l l' whole = TellsHashes t (state h) (state h') (told l) (told l') whole
