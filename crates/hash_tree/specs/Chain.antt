-- A data block with the hash blocks on the way to it.
use Rattle.std.specs.Prelude.{◌≡◌, ℕ, zero, suc, ◌+◌, ◌<◌, List, [], ◌∷◌, length, map, Vec}
use Rattle.std.specs.Global.{Global}
use Rattle.std.specs.List.{slice_index_or}
use Rattle.tree_shape.specs.Digests.{digest, digest_in}
use Rattle.tree_shape.specs.Shape.{ShapeRecord, levels, slot, ancestor}
use Rattle.hash_tree.specs.Tree.{level}

-- the number of a data block, the block, and the hash blocks from the top level down to level 0
pub record ChainRecord : Type 0 where
  pub index : ℕ
  pub content : List ℕ
  pub path : List (List ℕ)

-- the bytes of each block
abbrev pub bytes_of : List (Vec ℕ Global) → List (List ℕ)
bytes_of blocks = map (λ b. b.items) blocks

-- From the digest that is expected: each block of the path, and at last the content, has the right
-- size and the digest that is stored in the block above.
abbrev pub HangsFrom : ShapeRecord → List ℕ → ℕ → List ℕ → List (List ℕ) → List ℕ → Type 0
HangsFrom shape salt i expected [] content = (length content ≡ shape.data_block) × (digest salt content ≡ expected)
HangsFrom shape salt i expected (block ∷ path) content = (length block ≡ shape.hash_block) × (digest salt block ≡ expected)
    × HangsFrom shape salt i (digest_in block (slot shape (ancestor shape (length path) i))) path content

-- the chain leads from the root to the data block of its number
pub record IsGood (shape : ShapeRecord) (salt root : List ℕ) (chain : ChainRecord) : Type 0 where
  pub index : chain.index < shape.blocks
  pub path : length chain.path ≡ levels shape
  pub hangs : HangsFrom shape salt chain.index root chain.path chain.content

-- the hash blocks on the way to data block i, of the n levels from n - 1 down
abbrev pub path_to : ShapeRecord → List ℕ → List (List ℕ) → ℕ → ℕ → List (List ℕ)
path_to shape salt digests zero i = []
path_to shape salt digests (suc l) i =
    slice_index_or (level shape.hash_block salt digests l) (ancestor shape (l + 1) i) [] ∷ path_to shape salt digests l i

-- the chain of data block i in the tree over the data blocks
unfoldable pub formed : ShapeRecord → List ℕ → List (List ℕ) → ℕ → ChainRecord
formed shape salt blocks i = record {
  index = i;
  content = slice_index_or blocks i [];
  path = path_to shape salt (map (digest salt) blocks) (levels shape) i;
}
