-- What a comparison proves about all data with the two root hashes.
use Rattle.std.specs.Prelude.{◌≡◌, ◌≢◌, ◌⊎◌, ℕ, List, [], map}
use Rattle.std.specs.List.{slice_index_or}
use Rattle.tree_shape.specs.Digests.{digest}
use Rattle.tree_shape.specs.Shape.{IsShape}
use Rattle.hash_tree.specs.Chain.{ChainRecord, IsGood}
use Rattle.hash_tree.specs.Laws.{AreBlocks}
use Rattle.hash_tree.specs.Tree.{root}
use Rattle.tree_path.specs.Laws.{Collide}
use Rattle.tree_difference.specs.Trees.{Trees, AreComparable, IsSame, IsDifferent, common_blocks}
use Rattle.std.specs.Prelude.{◌<◌}

-- two chains to one data block, each of which verifies under one of the roots
pub record AreChains (t : Trees) (i : ℕ) (a b : ChainRecord) : Type 0 where
  pub first_index : a.index ≡ i
  pub second_index : b.index ≡ i
  pub first_good : IsGood t.first t.first_salt t.first_root a
  pub second_good : IsGood t.second t.second_salt t.second_root b

-- a data block found the same has one content in both chains, or two different inputs have one digest
abbrev pub SameBlocksAreSame : Type 0
SameBlocksAreSame = (t : Trees) → AreComparable t → (i : ℕ) → IsSame t i → (a b : ChainRecord) → AreChains t i a b → (a.content ≡ b.content) ⊎ Collide t.first_salt

-- a data block found changed has two contents, or two different inputs have one digest
abbrev pub ChangedChainsDiffer : Type 0
ChangedChainsDiffer = (t : Trees) → AreComparable t → (i : ℕ) → IsDifferent t i → (a b : ChainRecord) → AreChains t i a b → (a.content ≢ b.content) ⊎ Collide t.first_salt

-- lists of data blocks whose trees have these roots
pub record AreBothContents (t : Trees) (first second : List (List ℕ)) : Type 0 where
  pub first_shape : IsShape t.first
  pub second_shape : IsShape t.second
  pub first_blocks : AreBlocks t.first.blocks t.first.data_block first
  pub second_blocks : AreBlocks t.second.blocks t.second.data_block second
  pub first_root : t.first_root ≡ root t.first.hash_block t.first_salt (map (digest t.first_salt) first)
  pub second_root : t.second_root ≡ root t.second.hash_block t.second_salt (map (digest t.second_salt) second)

-- a block found the same is the same in both data, and one found changed differs; or two different inputs have one digest
abbrev pub SameContentsAreSame : Type 0
SameContentsAreSame = (t : Trees) → AreComparable t → (first second : List (List ℕ)) → AreBothContents t first second → (i : ℕ) → i < common_blocks t → IsSame t i
    → (slice_index_or first i [] ≡ slice_index_or second i []) ⊎ Collide t.first_salt

abbrev pub ChangedListsDiffer : Type 0
ChangedListsDiffer = (t : Trees) → AreComparable t → (first second : List (List ℕ)) → AreBothContents t first second → (i : ℕ) → i < common_blocks t → IsDifferent t i
    → (slice_index_or first i [] ≢ slice_index_or second i []) ⊎ Collide t.first_salt
