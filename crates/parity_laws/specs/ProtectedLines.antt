-- A `verity` line with parity over the devices of an image whose parity was written.
use Rattle.std.specs.Prelude.{◌≡◌, ◌⊎◌, ℕ, ◌+◌, ◌-◌, ◌*◌, ◌/◌, ◌%◌, ◌<◌, ◌≤◌, List, [], Some, Ok, All, length}
use Rattle.std.specs.List.{slice_index_or}
use Rattle.block_device.specs.Device.{IsSector}
use Rattle.hash_tree.specs.Laws.{AreBlocks}
use Rattle.hash_tree.specs.Tree.{root}
use Rattle.tree_shape.specs.Shape.{ancestor, levels}
use Rattle.dm_table.specs.declared.parity.Parity.{Parity}
use Rattle.dm_table.specs.declared.table.Line.{Line}
use Rattle.dm_table.specs.declared.verity.Verity.{Verity}
use Rattle.stack_rules.specs.Names.{mapped}
use Rattle.stack_rules.specs.Records.{Configuration}
use Rattle.stack_rules.specs.Rules.{IsLoaded}
use Rattle.stack_rules.specs.Trees.{block_sectors, round_count, tree_of}
use Rattle.stack_meaning.specs.Blocks.{covered_hash}
use Rattle.stack_meaning.specs.Meaning.{sector}
use Rattle.stack_meaning.specs.Outcomes.{AreWhole, Images}
use Rattle.stack_meaning.specs.Erasures.{IsFormerCode, IsKnownBeside}
use Rattle.stack_meaning.specs.Spares.{BlockSources, IsFormerRound, IsWholeBeside, covered_block}
use Rattle.stack_engine.specs.DamagedData.{PathCollides, line_sources, tree_block}
use Rattle.stack_engine.specs.Laws.{LiesInVerity, formatted_sector, verity_digests}
use Rattle.verity_format.specs.Blocks.{block_at, blocks_at}
use Rattle.fec_area.specs.declared.layout.Layout.{Layout}
use Rattle.fec_area.specs.Layouts.{IsLayout, IsProtected, covered, covered_blocks, round_bytes}

-- the sectors of the data, hash and parity devices when the parity was written
pub record ProtectedImage : Type 0 where
  pub data_image : List (List ℕ)
  pub hash_image : List (List ℕ)
  pub parity_image : List (List ℕ)

-- the devices have whole sectors and the blocks that the layout covers, and the parity is that of these blocks
pub record IsProtectedImage (l : Layout) (f : ProtectedImage) : Type 0 where
  pub data_sectors : All IsSector f.data_image
  pub hash_sectors : All IsSector f.hash_image
  pub data_fits : l.data_blocks * (l.block / 512) ≤ length f.data_image
  pub hash_fits : (l.hash_first + l.hash_blocks) * (l.block / 512) ≤ length f.hash_image
  pub parity_is : IsProtected l f.data_image f.hash_image f.parity_image

-- covered block j, the parity of round n, and the data blocks, when the parity was written
abbrev pub protected_block : Layout → ProtectedImage → ℕ → List ℕ
protected_block l f j = covered l f.data_image f.hash_image j

abbrev pub protected_parity : Layout → ProtectedImage → ℕ → List ℕ
protected_parity l f n = block_at f.parity_image (round_bytes l) n

abbrev pub protected_data : Verity → ProtectedImage → List (List ℕ)
protected_data v f = blocks_at f.data_image v.data_block 0 v.blocks

-- the arguments of the line's parity state that layout
pub record IsLayoutOfLine (v : Verity) (p : Parity) (l : Layout) : Type 0 where
  pub layout : IsLayout l
  pub size : l.block ≡ v.data_block
  pub data_blocks : l.data_blocks ≡ v.blocks
  pub first : l.hash_first ≡ v.start
  pub all : covered_blocks l ≡ p.blocks
  pub roots : l.roots ≡ p.roots

-- with its parity a round sums to zeros, and is a codeword at each byte of its blocks
abbrev pub ProtectedRoundsAreFormer : Type 0
ProtectedRoundsAreFormer =
    (v : Verity) (p : Parity) (l : Layout) (f : ProtectedImage) → IsLayoutOfLine v p l → IsProtectedImage l f
    → (n : ℕ) → n < round_count p → IsFormerRound v p (protected_block l f) n (protected_parity l f n) × IsFormerCode v p (protected_block l f) n (protected_parity l f n)

-- the line has the parity of the image, and the root of the tree of its data blocks
pub record IsProtectedLine (v : Verity) (p : Parity) (l : Layout) (f : ProtectedImage) : Type 0 where
  pub has : v.parity ≡ Some p
  pub laid : IsLayoutOfLine v p l
  pub protected : IsProtectedImage l f
  pub sized : AreBlocks v.blocks v.data_block (protected_data v f)
  pub root_is : v.root ≡ root v.hash_block v.salt (verity_digests v (protected_data v f))

-- Covered block j is unchanged. Or its round's parity is unchanged, and each other block of the round has the known digest of the one that it
-- was, or is unchanged, and at most as many of the round are lost as a codeword has bytes of parity; or each other block is unchanged.
abbrev pub HasKeptRound : Verity → Parity → Layout → ProtectedImage → BlockSources → ℕ → Type 0
HasKeptRound v p l f from j =
    (covered_block v from j ≡ Ok (protected_block l f j))
    ⊎ (IsKnownBeside v p from (protected_block l f) j (protected_parity l f (j % round_count p)) ⊎ IsWholeBeside v p from (protected_block l f) j (protected_parity l f (j % round_count p)))

-- The hash blocks on the path to data block i, when the parity was written, are those of the tree of the data. That data block and each of
-- these is unchanged, or enough of its round is.
pub record HasKeptPath (v : Verity) (p : Parity) (l : Layout) (f : ProtectedImage) (from : BlockSources) (i : ℕ) : Type 0 where
  pub above : (k : ℕ) → k < levels (tree_of v) → protected_block l f (covered_hash v k (ancestor (tree_of v) (k + 1) i)) ≡ tree_block v (protected_data v f) k i
  pub block : HasKeptRound v p l f from i
  pub path : (k : ℕ) → k < levels (tree_of v) → HasKeptRound v p l f from (covered_hash v k (ancestor (tree_of v) (k + 1) i))

-- a sector of such a line, in data block i, is the image's; or a block on its path is lost, and a block of its round, when the parity was
-- written, is one of two different inputs of one digest
abbrev pub ProtectedDataIsRead : Type 0
ProtectedDataIsRead = (c : Configuration) → IsLoaded c → (images : Images) → AreWhole images
    → (d s k : ℕ) (line : Line) (v : Verity) → LiesInVerity c d s k line v
    → (p : Parity) (l : Layout) (f : ProtectedImage) → IsProtectedLine v p l f
    → HasKeptPath v p l f (line_sources c images v) ((s - line.start) / block_sectors v)
    → (sector c images (mapped d) s ≡ Ok (formatted_sector v (protected_data v f) (s - line.start)))
    ⊎ PathCollides c images v p (protected_block l f) ((s - line.start) / block_sectors v)
