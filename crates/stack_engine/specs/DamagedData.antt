-- A verity line with parity that has lost blocks.
use Rattle.std.specs.Prelude.{◌≡◌, ◌≢◌, ◌⊎◌, ℕ, ◌+◌, ◌-◌, ◌*◌, ◌/◌, ◌%◌, ◌<◌, List, [], ◌++◌, Some, Ok}
use Rattle.std.specs.List.{slice_index_or, concat}
use Rattle.hash_tree.specs.Laws.{AreBlocks}
use Rattle.hash_tree.specs.Tree.{root, area, level}
use Rattle.tree_shape.specs.Shape.{ancestor, area_blocks, levels}
use Rattle.dm_table.specs.declared.parity.Parity.{Parity}
use Rattle.dm_table.specs.declared.table.Line.{Line}
use Rattle.dm_table.specs.declared.verity.Verity.{Verity}
use Rattle.stack_rules.specs.Names.{mapped}
use Rattle.stack_rules.specs.Records.{Configuration}
use Rattle.stack_rules.specs.Rules.{IsLoaded}
use Rattle.stack_rules.specs.Trees.{tree_of, block_sectors, round_count}
use Rattle.stack_meaning.specs.Blocks.{covered_hash, hash_sectors}
use Rattle.stack_meaning.specs.Meaning.{sector}
use Rattle.stack_meaning.specs.Outcomes.{Images, AreWhole, span}
use Rattle.stack_meaning.specs.Erasures.{IsFormerCode, IsKnownBeside}
use Rattle.stack_meaning.specs.Spares.{BlockSources, IsFormerRound, IsWholeBeside, covered_block}
use Rattle.stack_lines.specs.Walks.{block_in, sources_of}
use Rattle.stack_engine.specs.Laws.{IsSha256Collision, LiesInVerity, formatted_sector, named_sector, verity_digests}

-- the sectors of the three devices of a line over the leaves' images
abbrev pub line_sources : Configuration → Images → Verity → BlockSources
line_sources c images v = sources_of (block_in c v 0) images

-- the hash device has the tree of the blocks where the line says, and the line has its root
pub record IsTreeOnHash (c : Configuration) (images : Images) (v : Verity) (blocks : List (List ℕ)) : Type 0 where
  pub sized : AreBlocks v.blocks v.data_block blocks
  pub on_hash : span (named_sector c images v.hash) (hash_sectors v * v.start) (hash_sectors v * area_blocks (tree_of v)) ≡ Ok (concat (area v.hash_block v.salt (verity_digests v blocks)))
  pub root_is : v.root ≡ root v.hash_block v.salt (verity_digests v blocks)

-- the hash block of level l of their tree, on the path to data block i
abbrev pub tree_block : Verity → List (List ℕ) → ℕ → ℕ → List ℕ
tree_block v blocks l i = slice_index_or (level v.hash_block v.salt (verity_digests v blocks) l) (ancestor (tree_of v) (l + 1) i) []

-- The round of covered block j is one of codewords of the former blocks and of parity that is readable, each other block of the round has the
-- known digest of the former one, or is the former one, and at most as many of the round are lost as a codeword has bytes of parity; or the
-- former blocks and the parity sum to zeros, and each other block is the former one, whatever digest is known of it.
pub record IsRestorable (v : Verity) (p : Parity) (from : BlockSources) (former : ℕ → List ℕ) (j : ℕ) : Type 0 where
  pub parity : List ℕ
  pub beside : (IsFormerCode v p former (j % round_count p) parity × IsKnownBeside v p from former j parity) ⊎ (IsFormerRound v p former (j % round_count p) parity × IsWholeBeside v p from former j parity)

-- covered block j is as it was, or can be restored
abbrev pub IsKeptOrRestorable : Verity → Parity → BlockSources → (ℕ → List ℕ) → ℕ → Type 0
IsKeptOrRestorable v p from former j = (covered_block v from j ≡ Ok (former j)) ⊎ IsRestorable v p from former j

-- The line has this parity and the root of the tree of the blocks. Data block i and each hash block on the path to it, which were
-- covered as these are, are as they were, or can be restored.
pub record IsDamaged (c : Configuration) (images : Images) (v : Verity) (p : Parity) (blocks : List (List ℕ)) (former : ℕ → List ℕ) (i : ℕ) : Type 0 where
  pub has : v.parity ≡ Some p
  pub sized : AreBlocks v.blocks v.data_block blocks
  pub root_is : v.root ≡ root v.hash_block v.salt (verity_digests v blocks)
  pub own : former i ≡ slice_index_or blocks i []
  pub above : (l : ℕ) → l < levels (tree_of v) → former (covered_hash v l (ancestor (tree_of v) (l + 1) i)) ≡ tree_block v blocks l i
  pub block : IsKeptOrRestorable v p (line_sources c images v) former i
  pub path : (l : ℕ) → l < levels (tree_of v) → IsKeptOrRestorable v p (line_sources c images v) former (covered_hash v l (ancestor (tree_of v) (l + 1) i))

-- another block has the digest of this one
pub record BlockCollides (v : Verity) (block : List ℕ) : Type 0 where
  pub other : List ℕ
  pub collision : IsSha256Collision (v.salt ++ other) (v.salt ++ block)

-- that of a former block of the round of covered block j
pub record RoundCollides (v : Verity) (p : Parity) (former : ℕ → List ℕ) (j : ℕ) : Type 0 where
  pub number : ℕ
  pub covered : number < p.blocks
  pub beside : number % round_count p ≡ j % round_count p
  pub collides : BlockCollides v (former number)

-- covered block j isn't as it was, and a block of its round collides
pub record LostCollides (v : Verity) (p : Parity) (from : BlockSources) (former : ℕ → List ℕ) (j : ℕ) : Type 0 where
  pub lost : covered_block v from j ≢ Ok (former j)
  pub round : RoundCollides v p former j

-- such a block is data block i, or a hash block on the path to it
abbrev pub PathCollides : Configuration → Images → Verity → Parity → (ℕ → List ℕ) → ℕ → Type 0
PathCollides c images v p former i =
    LostCollides v p (line_sources c images v) former i
    ⊎ ((l : ℕ) × (l < levels (tree_of v)) × LostCollides v p (line_sources c images v) former (covered_hash v l (ancestor (tree_of v) (l + 1) i)))

-- a sector of such a line, in data block i, is as it was; or a block on its path is lost, and a former block of that round is one of two
-- different inputs of one digest
abbrev pub DamagedDataIsRead : Type 0
DamagedDataIsRead = (c : Configuration) → IsLoaded c → (images : Images) → AreWhole images
    → (d s l : ℕ) (line : Line) (v : Verity) → LiesInVerity c d s l line v
    → (p : Parity) (blocks : List (List ℕ)) (former : ℕ → List ℕ) → IsDamaged c images v p blocks former ((s - line.start) / block_sectors v)
    → (sector c images (mapped d) s ≡ Ok (formatted_sector v blocks (s - line.start)))
    ⊎ PathCollides c images v p former ((s - line.start) / block_sectors v)
