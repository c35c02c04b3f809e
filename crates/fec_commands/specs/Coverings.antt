-- The blocks that the parity of a table line covers, if there is room for the parity.
use Rattle.std.specs.Prelude.{◌≡◌, ◌≢◌, ℕ, ◌<◌, ◌≤◌, false, true}
use Rattle.fec_area.specs.declared.layout.Layout.{Layout}
use Rattle.fec_area.specs.declared.writing.ParityFault.TheVariants.{TooSmall}
use Rattle.fec_area.specs.Layouts.{IsLayoutOf, covered_blocks, parity_sectors}
use Rattle.image_commands.specs.declared.fault.ImageFault.TheVariants.{Verify}
use Rattle.tree_shape.specs.Shape.{ShapeRecord}
use Rattle.verity_commands.specs.declared.verity_fault.VerityFault.TheVariants.{Image, Usage}
use Rattle.verity_format.specs.declared.verifying.VerifyFault.TheVariants.{TooSmall as TreeTooSmall}
use Rattle.fec_commands.specs.declared.fault.FecFault.{FecFault}
use Rattle.fec_commands.specs.declared.fault.FecFault.TheVariants.{BlockSizes, Parity, Verity}
use Rattle.fec_commands.specs.Layings.{is_roots}
use Rattle.fec_commands.specs.Needed.{TakesSectors}
use Rattle.fec_commands.specs.Tables.{covers_tree}

-- the parity of an image with a tree of that shape, on a hash device of so many sectors, covers so many blocks, among them the tree,
-- and fits into `room` sectors
pub record Covers (shape : ShapeRecord) (hash_sectors room roots blocks : ℕ) : Type 0 where
  pub layout : Layout
  pub is : IsLayoutOf shape hash_sectors roots layout
  pub covers : covers_tree layout shape ≡ true
  pub fits : parity_sectors layout ≤ room
  pub value : blocks ≡ covered_blocks layout

-- the hash device ends before the tree
pub record IsTreeCut (shape : ShapeRecord) (hash_sectors roots : ℕ) : Type 0 where
  pub layout : Layout
  pub is : IsLayoutOf shape hash_sectors roots layout
  pub short : covers_tree layout shape ≡ false

-- why there is no such parity
abbrev pub IsUncovered : ShapeRecord → ℕ → ℕ → ℕ → FecFault → Type 0
IsUncovered shape hash_sectors room roots (Verity Usage) = is_roots roots ≡ false
IsUncovered shape hash_sectors room roots (Verity (Image (Verify TreeTooSmall))) = IsTreeCut shape hash_sectors roots
IsUncovered shape hash_sectors room roots BlockSizes = shape.data_block ≢ shape.hash_block
IsUncovered shape hash_sectors room roots (Parity (TooSmall needed)) = TakesSectors shape hash_sectors roots needed × (room < needed)
IsUncovered shape hash_sectors room roots fault = ⊥
