-- How many sectors the parity of an image takes before the image exists.
use Rattle.std.specs.Prelude.{◌≡◌, ◌≢◌, ◌⊎◌, ℕ, ◌≤◌, max, Bool, true, false, is_some}
use Rattle.fec_area.specs.declared.layout.Layout.{Layout}
use Rattle.fec_area.specs.Layouts.{IsLayoutOf, parity_sectors}
use Rattle.tree_shape.specs.Shape.{ShapeRecord, first_fault, shape_with}
use Rattle.verity_format.specs.Formatting.{given_blocks}
use Rattle.verity_format.specs.Image.{image_sectors, tree_sectors}
use Rattle.fec_commands.specs.declared.needed.FoundSectors.{FoundSectors}
use Rattle.fec_commands.specs.declared.wanted.WantedTree.{WantedTree}
use Rattle.fec_commands.specs.Wanted.{start_of}

-- the shape of the tree that these options make over so many sectors of data
abbrev pub said_shape : WantedTree → ℕ → ShapeRecord
said_shape wanted data_sectors =
    shape_with wanted.options.data_block wanted.options.hash_block (given_blocks wanted.options.blocks wanted.options.data_block data_sectors) (start_of wanted.bare)

-- how many sectors the hash image with a tree of that shape has; without a superblock those of the tree alone
abbrev pub made_sectors : Bool → ShapeRecord → ℕ
made_sectors true shape = tree_sectors shape
made_sectors false shape = image_sectors shape

-- how many sectors the parity takes of an image with a tree of that shape, on a hash device of so many sectors
pub record TakesSectors (shape : ShapeRecord) (hash_sectors roots needed : ℕ) : Type 0 where
  pub layout : Layout
  pub is : IsLayoutOf shape hash_sectors roots layout
  pub value : needed ≡ parity_sectors layout

-- how many sectors the parity takes of the image that these options make, from so many sectors of data, with so many for the
-- hash image
abbrev pub IsNeeded : WantedTree → ℕ → ℕ → ℕ → ℕ → Type 0
IsNeeded wanted data_sectors hash_sectors roots needed = TakesSectors (said_shape wanted data_sectors) hash_sectors roots needed

-- how many it takes if HASH is extended to the hash image's size when it has fewer sectors
abbrev pub IsNeededGrown : WantedTree → FoundSectors → ℕ → ℕ → Type 0
IsNeededGrown wanted sectors roots needed = IsNeeded wanted sectors.«data» (max sectors.hash (made_sectors wanted.bare (said_shape wanted sectors.«data»))) roots needed

-- the options make no image with parity
abbrev pub HasNone : WantedTree → ℕ → Type 0
HasNone wanted data_sectors = (is_some (first_fault (said_shape wanted data_sectors)) ≡ true) ⊎ (wanted.options.data_block ≢ wanted.options.hash_block)

-- so many sectors are enough
abbrev pub AreEnough : (ℕ → Type 0) → WantedTree → ℕ → ℕ → Type 0
AreEnough IsNeededHere wanted data_sectors sectors = HasNone wanted data_sectors ⊎ ((needed : ℕ) → IsNeededHere needed → needed ≤ sectors)
