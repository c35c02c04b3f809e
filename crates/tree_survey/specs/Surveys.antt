-- The states of the data blocks of a hash tree, and what proves them.
use Rattle.std.specs.Prelude.{◌≡◌, ◌≢◌, ℕ, ◌+◌, ◌<◌, ◌≤◌, List, Some, None}
use Rattle.tree_shape.specs.Digests.{digest}
use Rattle.tree_shape.specs.Shape.{ShapeRecord, levels}
use Rattle.verity_format.specs.Blocks.{block_at}
use Rattle.tree_path.specs.Path.{PathRecord, IsPathOf, LeadsTo, block_of, digest_on, stored_block, stored_digest}
use Rattle.runs.specs.declared.kind.Kind.TheVariants.{Changed, Unknown}
use Rattle.runs.specs.Kinds.{State}

-- a tree's shape, salt and root hash
pub record Tree : Type 0 where
  pub shape : ShapeRecord
  pub salt : List ℕ
  pub root : List ℕ

-- ---- states by what was read

-- a path from the root down to the digest k levels above data block i, by hash blocks that verify
pub record IsWay (t : Tree) (i k : ℕ) (p : PathRecord) : Type 0 where
  pub is : IsPathOf t.shape t.salt t.root p
  pub few : k ≤ levels t.shape
  pub leads : LeadsTo p i k

-- a path leads to this digest of the block
abbrev pub IsGoodBy : Tree → ℕ → List ℕ → Type 0
IsGoodBy t i found = (p : PathRecord) × (IsWay t i 0 p × (found ≡ digest_on p i 0))

-- a path leads to another digest
abbrev pub IsChangedBy : Tree → ℕ → List ℕ → Type 0
IsChangedBy t i found = (p : PathRecord) × (IsWay t i 0 p × (found ≢ digest_on p i 0))

-- a path leads to a hash block above the data block whose digest isn't the one stored in its parent
abbrev pub IsUnknownAt : Tree → ℕ → Type 0
IsUnknownAt t i = (l : ℕ) × ((p : PathRecord) × ((l < levels t.shape) × (IsWay t i (l + 1) p × (digest t.salt (block_of p l) ≢ digest_on p i (l + 1)))))

-- the state of a data block by its digest, and what proves it
abbrev pub IsSeenBy : Tree → ℕ → List ℕ → State → Type 0
IsSeenBy t i found None = IsGoodBy t i found
IsSeenBy t i found (Some Changed) = IsChangedBy t i found
IsSeenBy t i found (Some Unknown) = IsUnknownAt t i
IsSeenBy t i found (Some kind) = ⊥

-- the state of a data block by its content, and what proves it
abbrev pub IsGoodAt : Tree → ℕ → List ℕ → Type 0
IsGoodAt t i content = IsGoodBy t i (digest t.salt content)

abbrev pub IsChangedAt : Tree → ℕ → List ℕ → Type 0
IsChangedAt t i content = IsChangedBy t i (digest t.salt content)

abbrev pub IsContentSeenAs : Tree → ℕ → List ℕ → State → Type 0
IsContentSeenAs t i content state = IsSeenBy t i (digest t.salt content) state

-- ---- states by what is stored on steady devices

-- the digest of the hash block of level l on the path to data block i is stored in its parent
abbrev pub HasDigestAbove : Tree → List (List ℕ) → ℕ → ℕ → Type 0
HasDigestAbove t image l i = digest t.salt (stored_block t.shape image l i) ≡ stored_digest t.shape t.root image i (l + 1)

abbrev pub AllStand : Tree → List (List ℕ) → ℕ → Type 0
AllStand t image i = (l : ℕ) → l < levels t.shape → HasDigestAbove t image l i

-- A data block is valid if all hash blocks above it verify and its digest is the stored one. It is changed if they verify and
-- another digest is stored. It is unknown if one of them doesn't verify.
abbrev pub IsStoredBy : Tree → List (List ℕ) → ℕ → List ℕ → State → Type 0
IsStoredBy t image i found None = AllStand t image i × (found ≡ stored_digest t.shape t.root image i 0)
IsStoredBy t image i found (Some Changed) = AllStand t image i × (found ≢ stored_digest t.shape t.root image i 0)
IsStoredBy t image i found (Some Unknown) = (l : ℕ) × ((l < levels t.shape) × (HasDigestAbove t image l i → ⊥))
IsStoredBy t image i found (Some kind) = ⊥

-- the state of the data block that is stored on the data device
abbrev pub IsContentStoredAs : Tree → List (List ℕ) → List (List ℕ) → ℕ → State → Type 0
IsContentStoredAs t data_image hash_image i state = IsStoredBy t hash_image i (digest t.salt (block_at data_image t.shape.data_block i)) state

-- ---- states after failed reads

-- a path leads from the root down to the digest of the block
abbrev pub IsLedTo : Tree → ℕ → Type 0
IsLedTo t i = (p : PathRecord) × IsWay t i 0 p

-- Why a data block counts as not valid though its state wasn't determined: a read of the data failed, and all hash blocks above
-- it verify; or a read of the tree failed, and the tree has hash blocks.
abbrev pub IsUnreadAs : Tree → Type 0 → Type 0 → Type 0 → State → Type 0
IsUnreadAs t above_good data_failed hash_failed None = ⊥
IsUnreadAs t above_good data_failed hash_failed (Some Changed) = above_good × data_failed
IsUnreadAs t above_good data_failed hash_failed (Some Unknown) = (0 < levels t.shape) × hash_failed
IsUnreadAs t above_good data_failed hash_failed (Some kind) = ⊥
