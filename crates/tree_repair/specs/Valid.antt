-- What an image stores if all of its blocks are valid.
use Rattle.std.specs.Prelude.{◌≡◌, ◌⊎◌, ℕ, ◌+◌, ◌<◌, List, [], None, map}
use Rattle.std.specs.List.{slice_index_or}
use Rattle.tree_shape.specs.Digests.{digest}
use Rattle.tree_shape.specs.Shape.{ancestor, levels}
use Rattle.hash_tree.specs.Tree.{level}
use Rattle.tree_path.specs.Laws.{Collide}
use Rattle.tree_path.specs.Path.{stored_block}
use Rattle.tree_survey.specs.Laws.{AreContents}
use Rattle.tree_survey.specs.Surveys.{IsContentStoredAs, Tree}
use Rattle.verity_format.specs.Blocks.{blocks_at}

-- Each data block has the digest that the hash block above it stores, and each hash block the digest that its parent stores or,
-- at the top, the root hash. These are the sectors of the data device and of the hash device.
abbrev pub AreAllValid : Tree → List (List ℕ) → List (List ℕ) → Type 0
AreAllValid t data_image hash_image = (i : ℕ) → i < t.shape.blocks → IsContentStoredAs t data_image hash_image i None

-- the data blocks are these, and each hash block on the path to one of them is the one of the tree over them
pub record HoldsTreeOver (t : Tree) (contents data_image hash_image : List (List ℕ)) : Type 0 where
  pub data_are : blocks_at data_image t.shape.data_block 0 t.shape.blocks ≡ contents
  pub tree_is : (l i : ℕ) → l < levels t.shape → i < t.shape.blocks
      → stored_block t.shape hash_image l i ≡ slice_index_or (level t.shape.hash_block t.salt (map (digest t.salt) contents) l) (ancestor t.shape (l + 1) i) []

-- If all blocks are valid, the image stores any data whose tree has the root hash, and that tree, or two different inputs have one
-- digest.
abbrev pub ValidImagesAreFormatted : Type 0
ValidImagesAreFormatted = (t : Tree) → (data_image hash_image : List (List ℕ)) → AreAllValid t data_image hash_image → (contents : List (List ℕ)) → AreContents t contents
    → HoldsTreeOver t contents data_image hash_image ⊎ Collide t.salt
