-- Laws of hash trees.
use Rattle.std.specs.Prelude.{◌≡◌, ◌≢◌, ℕ, ◌+◌, ◌-◌, ◌*◌, ◌/◌, ◌^◌, ◌<◌, ◌≤◌, List, [], length, map, slice_get, All}
use Rattle.std.specs.List.{slice_index_or}
use Rattle.hash_tree.specs.declared.difference.Place.{Place}
use Rattle.tree_shape.specs.Digests.{digest}
use Rattle.tree_shape.specs.Shape.{ShapeRecord, IsShape, per_block, levels, level_blocks, position, slot, ancestor, area_blocks, area_end}
use Rattle.hash_tree.specs.Tree.{root, area, level}
use Rattle.hash_tree.specs.Chain.{ChainRecord, IsGood, formed}
use Rattle.hash_tree.specs.Difference.{IsTopmostDifference, IsCollision, chain_at}

-- the shape has that block
abbrev pub HasBlock : ShapeRecord → ℕ → ℕ → Type 0
HasBlock s l i = (l < levels s) × (i < level_blocks s l)

-- that many digests of 32 bytes
pub record AreDigests (n : ℕ) (digests : List (List ℕ)) : Type 0 where
  pub count : length digests ≡ n
  pub sized : All (λ d. length d ≡ 32) digests

-- that many blocks of that size
pub record AreBlocks (n size : ℕ) (blocks : List (List ℕ)) : Type 0 where
  pub count : length blocks ≡ n
  pub sized : All (λ b. length b ≡ size) blocks

-- the number of levels is the least L for which (blocks - 1) / p^L is 0
abbrev pub LevelsAreLeast : Type 0
LevelsAreLeast = (s : ShapeRecord) → IsShape s
    → ((s.blocks - 1) / per_block s ^ levels s ≡ 0) × ((l : ℕ) → l < levels s → 0 < (s.blocks - 1) / per_block s ^ l)

-- every place lies between the tree's begin and the area's end
abbrev pub PlacesLieInside : Type 0
PlacesLieInside = (s : ShapeRecord) → IsShape s → (l i : ℕ) → HasBlock s l i
    → (s.start ≤ position s l i) × (position s l i + 1 ≤ area_end s)

-- every slot lies inside its hash block
abbrev pub SlotsLieInside : Type 0
SlotsLieInside = (s : ShapeRecord) → IsShape s → (i : ℕ) → 32 * slot s i + 32 ≤ s.hash_block

-- the block above a data block is one of its level
abbrev pub AncestorsAreBlocks : Type 0
AncestorsAreBlocks = (s : ShapeRecord) → IsShape s → (l i : ℕ) → i < s.blocks → ancestor s (l + 1) i < level_blocks s l

-- no two blocks are stored at one place, and a block is stored at each place of the area
abbrev pub PlacesAreTakenOnce : Type 0
PlacesAreTakenOnce = (s : ShapeRecord) → IsShape s
    → ((l i m j : ℕ) → HasBlock s l i → HasBlock s m j → position s l i ≡ position s m j → (l ≡ m) × (i ≡ j))
    × ((k : ℕ) → k < area_blocks s → (l : ℕ) × ((i : ℕ) × (HasBlock s l i × (position s l i ≡ s.start + k))))

-- the tree over the digests has the blocks that the shape says, each at its place
pub record StandsInShape (s : ShapeRecord) (salt : List ℕ) (digests : List (List ℕ)) : Type 0 where
  pub total : length (area s.hash_block salt digests) ≡ area_blocks s
  pub sized : All (λ b. length b ≡ s.hash_block) (area s.hash_block salt digests)
  pub counts : (l : ℕ) → l < levels s → length (level s.hash_block salt digests l) ≡ level_blocks s l
  pub places : (l i : ℕ) → HasBlock s l i
      → slice_get (area s.hash_block salt digests) (position s l i - s.start) ≡ slice_get (level s.hash_block salt digests l) i

abbrev pub TreesStandInShape : Type 0
TreesStandInShape = (s : ShapeRecord) → IsShape s → (salt : List ℕ) (digests : List (List ℕ))
    → AreDigests s.blocks digests → StandsInShape s salt digests

-- the chain formed of any data block is good under the root
abbrev pub FormedChainsAreGood : Type 0
FormedChainsAreGood = (s : ShapeRecord) → IsShape s → (salt : List ℕ) (blocks : List (List ℕ)) → AreBlocks s.blocks s.data_block blocks
    → (i : ℕ) → i < s.blocks → IsGood s salt (root s.hash_block salt (map (digest salt) blocks)) (formed s salt blocks i)

-- a good chain has a hash block for each level, and all its blocks have the shape's sizes
abbrev pub GoodChainsAreWhole : Type 0
GoodChainsAreWhole = (s : ShapeRecord) (salt root : List ℕ) (chain : ChainRecord) → IsGood s salt root chain
    → AreBlocks (levels s) s.hash_block chain.path × (length chain.content ≡ s.data_block)

-- where two good chains of one root first differ, two different blocks have one digest
abbrev pub DifferencesCollide : Type 0
DifferencesCollide = (s : ShapeRecord) (salt root : List ℕ) (a b : ChainRecord) → IsGood s salt root a → IsGood s salt root b
    → (place : Place) → IsTopmostDifference a b place → IsCollision salt (chain_at a place) (chain_at b place)

-- two good chains of one root and index that are not equal have such a place
abbrev pub GoodChainsCollide : Type 0
GoodChainsCollide = (s : ShapeRecord) (salt root : List ℕ) (a b : ChainRecord) → IsGood s salt root a → IsGood s salt root b
    → a.index ≡ b.index → a ≢ b
    → (place : Place) × (IsTopmostDifference a b place × IsCollision salt (chain_at a place) (chain_at b place))

-- a good chain under the root of some data blocks, with another content than theirs, names two
-- different blocks with one digest
abbrev pub ForgedBlocksCollide : Type 0
ForgedBlocksCollide = (s : ShapeRecord) → IsShape s → (salt : List ℕ) (blocks : List (List ℕ)) → AreBlocks s.blocks s.data_block blocks
    → (chain : ChainRecord) → IsGood s salt (root s.hash_block salt (map (digest salt) blocks)) chain
    → chain.content ≢ slice_index_or blocks chain.index []
    → (place : Place) × (IsTopmostDifference (formed s salt blocks chain.index) chain place
    × IsCollision salt (chain_at (formed s salt blocks chain.index) place) (chain_at chain place))
