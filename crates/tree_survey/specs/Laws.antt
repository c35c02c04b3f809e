-- What is known of a data block that was found valid or changed.
use Rattle.std.specs.Prelude.{◌≡◌, ◌≢◌, ◌⊎◌, ◌<◌, ℕ, List, [], map}
use Rattle.std.specs.List.{slice_index_or}
use Rattle.tree_shape.specs.Digests.{digest}
use Rattle.tree_shape.specs.Shape.{IsShape}
use Rattle.hash_tree.specs.Chain.{ChainRecord, IsGood}
use Rattle.hash_tree.specs.Laws.{AreBlocks}
use Rattle.hash_tree.specs.Tree.{root}
use Rattle.tree_path.specs.Laws.{Collide}
use Rattle.tree_survey.specs.Surveys.{Tree, IsGoodAt, IsChangedAt}

-- a chain to data block i that verifies under the root
pub record IsChain (t : Tree) (i : ℕ) (c : ChainRecord) : Type 0 where
  pub index : c.index ≡ i
  pub good : IsGood t.shape t.salt t.root c

-- the content of a valid block is that of every chain, or two different inputs have one digest
abbrev pub GoodBlocksAreGood : Type 0
GoodBlocksAreGood = (t : Tree) → (i : ℕ) → (content : List ℕ) → IsGoodAt t i content → (c : ChainRecord) → IsChain t i c → (content ≡ c.content) ⊎ Collide t.salt

-- the content of a changed block is that of no chain, or two different inputs have one digest
abbrev pub ChangedBlocksDiffer : Type 0
ChangedBlocksDiffer = (t : Tree) → (i : ℕ) → (content : List ℕ) → IsChangedAt t i content → (c : ChainRecord) → IsChain t i c → (content ≢ c.content) ⊎ Collide t.salt

-- a list of data blocks whose tree has this root
pub record AreContents (t : Tree) (contents : List (List ℕ)) : Type 0 where
  pub shape : IsShape t.shape
  pub blocks : AreBlocks t.shape.blocks t.shape.data_block contents
  pub root : t.root ≡ root t.shape.hash_block t.salt (map (digest t.salt) contents)

-- a valid block is the one of any data whose tree has this root, and a changed block isn't; or two different inputs have one
-- digest
abbrev pub GoodContentsAreData : Type 0
GoodContentsAreData = (t : Tree) → (contents : List (List ℕ)) → AreContents t contents → (i : ℕ) → i < t.shape.blocks → (content : List ℕ) → IsGoodAt t i content
    → (content ≡ slice_index_or contents i []) ⊎ Collide t.salt

abbrev pub ChangedContentsDiffer : Type 0
ChangedContentsDiffer = (t : Tree) → (contents : List (List ℕ)) → AreContents t contents → (i : ℕ) → i < t.shape.blocks → (content : List ℕ) → IsChangedAt t i content
    → (content ≢ slice_index_or contents i []) ⊎ Collide t.salt
