-- The hash blocks on the path to a data block.
use Rattle.std.specs.Prelude.{◌≡◌, ℕ, ◌+◌, ◌<◌, ◌≤◌, ◌==◌, if◌then◌else◌, List, [], length, All}
use Rattle.std.specs.List.{slice_index_or}
use Rattle.tree_shape.specs.Digests.{digest, digest_in}
use Rattle.tree_shape.specs.Shape.{ShapeRecord, IsShape, levels, position, slot, ancestor}
use Rattle.verity_format.specs.Blocks.{block_at}

-- the shape, salt and root hash of a tree, and a hash block of each level, from level 0 up
pub record PathRecord : Type 0 where
  pub shape : ShapeRecord
  pub salt : List ℕ
  pub root : List ℕ
  pub blocks : List (List ℕ)

pub record IsPath (p : PathRecord) : Type 0 where
  pub valid : IsShape p.shape
  pub count : length p.blocks ≡ levels p.shape
  pub sized : All (λ b. length b ≡ p.shape.hash_block) p.blocks

-- the path is one of this tree
pub record IsPathOf (shape : ShapeRecord) (salt root : List ℕ) (p : PathRecord) : Type 0 where
  pub shape_is : p.shape ≡ shape
  pub salt_is : p.salt ≡ salt
  pub root_is : p.root ≡ root

-- the largest size of a hash block in bytes; no allocation for a path has more elements
abbrev pub largest_block : ℕ
largest_block = 4096

-- the hash block of level l
abbrev pub block_of : PathRecord → ℕ → List ℕ
block_of p l = slice_index_or p.blocks l []

-- the digest expected m levels above data block i: at the top the root hash, otherwise the one stored in the block of
-- level m
unfoldable pub digest_on : PathRecord → ℕ → ℕ → List ℕ
digest_on p i m = if m == levels p.shape then p.root else digest_in (block_of p m) (slot p.shape (ancestor p.shape m i))

-- from level k up, each block has the digest stored in its parent, and the topmost has the root hash
pub record LeadsTo (p : PathRecord) (i k : ℕ) : Type 0 where
  pub up : (l : ℕ) → k ≤ l → l < levels p.shape → digest p.salt (block_of p l) ≡ digest_on p i (l + 1)

-- the hash block of level l on the path to data block i as a device stores it
abbrev pub stored_block : ShapeRecord → List (List ℕ) → ℕ → ℕ → List ℕ
stored_block s image l i = block_at image s.hash_block (position s l (ancestor s (l + 1) i))

-- the digest expected m levels above data block i, as a device stores it
unfoldable pub stored_digest : ShapeRecord → List ℕ → List (List ℕ) → ℕ → ℕ → List ℕ
stored_digest s root image i m = if m == levels s then root else digest_in (stored_block s image m i) (slot s (ancestor s m i))

-- the blocks from level k up are those stored on the path to data block i
pub record AreStored (p : PathRecord) (image : List (List ℕ)) (i k : ℕ) : Type 0 where
  pub up : (l : ℕ) → k ≤ l → l < levels p.shape → block_of p l ≡ stored_block p.shape image l i
