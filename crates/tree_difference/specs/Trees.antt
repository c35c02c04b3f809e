-- Two hash trees that are compared, and what proves that a data block is the same in both.
use Rattle.std.specs.Prelude.{◌≡◌, ◌≢◌, ℕ, ◌≤◌, min, Some, None, List}
use Rattle.tree_shape.specs.Shape.{ShapeRecord, levels}
use Rattle.tree_path.specs.Path.{PathRecord, IsPathOf, LeadsTo, digest_on, stored_digest}
use Rattle.runs.specs.declared.kind.Kind.TheVariants.{Changed}
use Rattle.runs.specs.Kinds.{State}

-- the shapes, salts and root hashes of two trees
pub record Trees : Type 0 where
  pub first : ShapeRecord
  pub second : ShapeRecord
  pub first_salt : List ℕ
  pub second_salt : List ℕ
  pub first_root : List ℕ
  pub second_root : List ℕ

-- the trees have the same block sizes and the same salt
pub record AreComparable (t : Trees) : Type 0 where
  pub data_block : t.second.data_block ≡ t.first.data_block
  pub hash_block : t.second.hash_block ≡ t.first.hash_block
  pub salt : t.second_salt ≡ t.first_salt

-- how many data blocks and how many levels both trees have
abbrev pub common_blocks : Trees → ℕ
common_blocks t = min t.first.blocks t.second.blocks

abbrev pub common_levels : Trees → ℕ
common_levels t = min (levels t.first) (levels t.second)

-- a path from each root down to the digests k levels above data block i, by hash blocks that verify
pub record AreWays (t : Trees) (i k : ℕ) (p q : PathRecord) : Type 0 where
  pub first_is : IsPathOf t.first t.first_salt t.first_root p
  pub second_is : IsPathOf t.second t.second_salt t.second_root q
  pub few : k ≤ common_levels t
  pub first_leads : LeadsTo p i k
  pub second_leads : LeadsTo q i k

-- at some level the paths to the data block lead to the same digest
abbrev pub IsSame : Trees → ℕ → Type 0
IsSame t i = (k : ℕ) × ((p : PathRecord) × ((q : PathRecord) × (AreWays t i k p q × (digest_on p i k ≡ digest_on q i k))))

-- the paths lead to two different digests of the data block
abbrev pub IsDifferent : Trees → ℕ → Type 0
IsDifferent t i = (p : PathRecord) × ((q : PathRecord) × (AreWays t i 0 p q × (digest_on p i 0 ≢ digest_on q i 0)))

-- the state of a data block of both trees, and what proves it
abbrev pub IsSeenAs : Trees → ℕ → State → Type 0
IsSeenAs t i None = IsSame t i
IsSeenAs t i (Some Changed) = IsDifferent t i
IsSeenAs t i (Some kind) = ⊥

-- the images of two hash devices
pub record HashImages : Type 0 where
  pub first_image : List (List ℕ)
  pub second_image : List (List ℕ)

abbrev pub first_digest : Trees → HashImages → ℕ → ℕ → List ℕ
first_digest t w i m = stored_digest t.first t.first_root w.first_image i m

abbrev pub second_digest : Trees → HashImages → ℕ → ℕ → List ℕ
second_digest t w i m = stored_digest t.second t.second_root w.second_image i m

-- The state by what is stored on the devices: a data block is changed if the digests on the path down to it differ at each
-- common level, down to its own.
abbrev pub IsStoredAs : Trees → HashImages → ℕ → State → Type 0
IsStoredAs t w i None = (m : ℕ) × ((m ≤ common_levels t) × (first_digest t w i m ≡ second_digest t w i m))
IsStoredAs t w i (Some kind) = (m : ℕ) → m ≤ common_levels t → first_digest t w i m ≢ second_digest t w i m
