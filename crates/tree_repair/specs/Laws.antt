-- What is known of repaired blocks, and of sectors outside them.
use Rattle.std.specs.Prelude.{◌≡◌, ◌⊎◌, ℕ, zero, suc, ◌+◌, ◌-◌, ◌/◌, ◌<◌, ◌≤◌, IsTrue, List, [], ◌∷◌}
use Rattle.std.specs.List.{slice_index_or}
use Rattle.tree_shape.specs.Shape.{levels}
use Rattle.hash_tree.specs.Chain.{ChainRecord, formed}
use Rattle.tree_path.specs.Laws.{Collide}
use Rattle.tree_survey.specs.Laws.{AreContents, IsChain}
use Rattle.tree_survey.specs.Surveys.{Tree}
use Rattle.verity_format.specs.Blocks.{blocks_at}
use Rattle.tree_repair.specs.declared.mending.Mended.TheVariants as mended
use Rattle.tree_repair.specs.Mending.{IsBlockFound}
use Rattle.tree_repair.specs.Runs.{IsVisited, Job, VisitsAll, Visit, sector_at, size_at}
use Rattle.tree_repair.specs.Worlds.{HasCountedNone, RepairWorld}

-- ---- repaired blocks

-- the block d steps below the top of a chain: a hash block or, at the end, the content
abbrev pub chain_block_below : List (List ℕ) → List ℕ → ℕ → List ℕ
chain_block_below [] content d = content
chain_block_below (b ∷ path) content zero = b
chain_block_below (b ∷ path) content (suc d) = chain_block_below path content d

-- the block of that height in a chain
abbrev pub block_of_height : Tree → ChainRecord → ℕ → List ℕ
block_of_height t c h = chain_block_below c.path c.content (levels t.shape - h)

-- the block was corrupt, and its bytes were found or reconstructed
pub record IsMendedBy (j : Job) (v : Visit) (w w' : RepairWorld) : Type 0 where
  pub visited : IsVisited j v w w'
  pub found : IsBlockFound v.mended

-- The bytes of a repaired block are those of every chain that verifies under the root, or two different inputs have one digest.
abbrev pub MendedBlocksAreGood : Type 0
MendedBlocksAreGood = (j : Job) → (v : Visit) → (w w' : RepairWorld) → IsMendedBy j v w w' → (c : ChainRecord) → IsChain j.tree v.index c
    → (v.bytes ≡ block_of_height j.tree c v.height) ⊎ Collide j.tree.salt

-- The bytes of a repaired block are those of any data whose tree has this root, or two different inputs have one digest.
abbrev pub MendedBlocksAreFormatted : Type 0
MendedBlocksAreFormatted = (j : Job) → (v : Visit) → (w w' : RepairWorld) → IsMendedBy j v w w' → (contents : List (List ℕ)) → AreContents j.tree contents
    → (v.bytes ≡ block_of_height j.tree (formed j.tree.shape j.tree.salt contents v.index) v.height) ⊎ Collide j.tree.salt

-- ---- hash blocks that are lost

-- These data blocks are stored on the data device, and the tree over them has the root. Both devices are steady, and counted no
-- failure between two states.
pub record HoldsData (j : Job) (w w' : RepairWorld) (contents : List (List ℕ)) : Type 0 where
  pub are : AreContents j.tree contents
  pub stand : contents ≡ blocks_at w.data_dev.image j.tree.shape.data_block 0 j.tree.shape.blocks
  pub data_steady : IsTrue w.data_dev.steady
  pub hash_steady : IsTrue w.hash_dev.steady
  pub data_none : HasCountedNone w.data_dev w'.data_dev
  pub hash_none : HasCountedNone w.hash_dev w'.hash_dev

-- a hash block of level l was visited, and is lost
pub record IsLostHash (j : Job) (v : Visit) (w w' : RepairWorld) (l : ℕ) : Type 0 where
  pub visited : IsVisited j v w w'
  pub height_is : v.height ≡ suc l
  pub lost : v.mended ≡ mended.Lost

-- if the data is intact, no hash block is lost, or two different inputs have one digest
abbrev pub NoHashBlockIsLost : Type 0
NoHashBlockIsLost = (j : Job) → (v : Visit) → (w w' : RepairWorld) → (l : ℕ) → IsLostHash j v w w' l → (contents : List (List ℕ)) → HoldsData j w w' contents → Collide j.tree.salt

-- ---- sectors outside the repaired blocks

-- a sector isn't among n sectors from the first on
abbrev pub IsSectorOutside : ℕ → ℕ → ℕ → Type 0
IsSectorOutside first n k = (k < first) ⊎ (first + n ≤ k)

-- a sector of the data device, or of the hash device, isn't in a block
abbrev pub IsOffData : Job → ℕ → ℕ → ℕ → Type 0
IsOffData j k zero i = IsSectorOutside (sector_at j.tree.shape zero i) (size_at j.tree.shape zero / 512) k
IsOffData j k (suc l) i = Unit {0}

abbrev pub IsOffTree : Job → ℕ → ℕ → ℕ → Type 0
IsOffTree j k zero i = Unit {0}
IsOffTree j k (suc l) i = IsSectorOutside (sector_at j.tree.shape (suc l) i) (size_at j.tree.shape (suc l) / 512) k

-- a sector is in none of the repaired blocks
abbrev pub AreOff : (ℕ → ℕ → Type 0) → List Visit → Type 0
AreOff P [] = Unit {0}
AreOff P (v ∷ more) = (IsBlockFound v.mended → P v.height v.index) × AreOff P more

-- a sector in no repaired block is unchanged, on a steady device
pub record StaysElsewhere (j : Job) (visits : List Visit) (w w' : RepairWorld) : Type 0 where
  pub data_stays : IsTrue w.data_dev.steady → (k : ℕ) → AreOff (IsOffData j k) visits → (d : List ℕ) → slice_index_or w'.data_dev.image k d ≡ slice_index_or w.data_dev.image k d
  pub tree_stays : IsTrue w.hash_dev.steady → (k : ℕ) → AreOff (IsOffTree j k) visits → (d : List ℕ) → slice_index_or w'.hash_dev.image k d ≡ slice_index_or w.hash_dev.image k d

abbrev pub OtherSectorsStay : Type 0
OtherSectorsStay = (j : Job) → (visits : List Visit) → (w w' : RepairWorld) → VisitsAll j visits w w' → StaysElsewhere j visits w w'
