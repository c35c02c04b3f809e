-- The root hash of the image that was made of steady data.
use Rattle.std.proofs.Common.{◌≡◌, ◌∙◌, ◌+◌, ◌*◌, ◌/◌, ◌<◌, ◌≤◌, ℕ, All, IsTrue, List, [], ◌∷◌, None, Some, ap, arith, cond, length, map, refl, subst, sym}
use Rattle.std.specs.Prelude.{Option, is_some}
use Rattle.std.proofs.lemmas.List.FromFn.{length-map-range_with_len}
use Rattle.block_device.specs.Device.{Device, IsWhole}
use Rattle.device_adapters.specs.Copying.{AreCopied}
use Rattle.hash_tree.specs.Chain.{HangsFrom, formed}
use Rattle.hash_tree.specs.Laws.{AreBlocks, FormedChainsAreGood}
use Rattle.tree_shape.specs.Digests.{digest}
use Rattle.tree_shape.specs.declared.shape.ShapeFault.{ShapeFault}
use Rattle.tree_shape.specs.Shape.{IsShape, ShapeRecord, first_fault}
use Rattle.tree_shape.proofs.lemmas.ShapeFaultLemmas.{IsShape-from_no_fault}
use Rattle.verity_format.specs.declared.formatting.FormatFault.{FormatFault}
use Rattle.verity_format.specs.declared.formatting.FormatFault.TheVariants.{Shape}
use Rattle.verity_format.specs.Blocks.{block_at, blocks_at}
use Rattle.verity_format.specs.Formatting.{format_refusal, room_refusal}
use Rattle.verity_format.specs.Image.{data_sectors, image_sectors, root_over}
use Rattle.verity_format.specs.Superblock.{SuperRecord, shape_of}
use Rattle.verity_format.proofs.lemmas.RoomLemmas.{fits-from_none}
use Rattle.verity_format.proofs.lemmas.RunLemmas.{blocks-sized}
use Rattle.disk_layout.specs.Written.{IsField}
use Rattle.assemble_commands.proofs.FieldLemmas.{digest-field}

-- ---- a format that isn't refused

-- the superblock has a shape, and the data device its data blocks
pub record IsAllowed (s : SuperRecord) (data_dev : Device) : Type 0 where
  pub shape : IsShape (shape_of s)
  pub data_room : data_sectors (shape_of s) ≤ data_dev.size

pub allowed : (s : SuperRecord) (data_dev hash_dev : Device) → format_refusal s data_dev hash_dev ≡ None → IsAllowed s data_dev
unfolding format_refusal
allowed s data_dev hash_dev none = go (first_fault (shape_of s)) refl none
  where
    go : (f : Option ShapeFault) → first_fault (shape_of s) ≡ f → cond (is_some f) (Some Shape) (room_refusal (shape_of s) (image_sectors (shape_of s)) data_dev hash_dev) ≡ None → IsAllowed s data_dev
    go None is h = record {
      shape = IsShape-from_no_fault (shape_of s) is;
      data_room = (fits-from_none (shape_of s) (image_sectors (shape_of s)) data_dev hash_dev h).0;
    }
    go (Some fault) is h = cc

-- the hash device has room for the image
pub hash-room : (s : SuperRecord) (data_dev hash_dev : Device) → format_refusal s data_dev hash_dev ≡ None → image_sectors (shape_of s) ≤ hash_dev.size
unfolding format_refusal
hash-room s data_dev hash_dev none = go (first_fault (shape_of s)) none
  where
    go : (f : Option ShapeFault) → cond (is_some f) (Some Shape) (room_refusal (shape_of s) (image_sectors (shape_of s)) data_dev hash_dev) ≡ None → image_sectors (shape_of s) ≤ hash_dev.size
    go None h = (fits-from_none (shape_of s) (image_sectors (shape_of s)) data_dev hash_dev h).1
    go (Some fault) h = cc

-- ---- the data blocks

module _ (s : SuperRecord) (data_dev : Device) (whole : IsWhole data_dev) (may : IsAllowed s data_dev) where
  pub data-blocks : AreBlocks s.blocks s.data_block (blocks_at data_dev.image s.data_block 0 s.blocks)
  data-blocks = record {
    count = length-map-range_with_len (block_at data_dev.image s.data_block) 0 s.blocks;
    sized = blocks-sized data_dev.image s.data_block may.shape.data_size whole.sectors 0 s.blocks (omega (arith, may.data_room, whole.length));
  }

-- a chain hangs from the digest of its first block
hangs-digest : (shape : ShapeRecord) (salt : List ℕ) (i : ℕ) (expected : List ℕ) (path : List (List ℕ)) (content : List ℕ) → HangsFrom shape salt i expected path content → IsField 32 expected
hangs-digest shape salt i expected [] content hangs = subst (λ (x : List ℕ). IsField 32 x) hangs.1 (digest-field salt content)
hangs-digest shape salt i expected (block ∷ path) content hangs = subst (λ (x : List ℕ). IsField 32 x) hangs.1 (digest-field salt block)

pub root-field : FormedChainsAreGood → (s : SuperRecord) (data_dev : Device) → IsWhole data_dev → IsAllowed s data_dev → IsField 32 (root_over (shape_of s) s.salt data_dev.image)
unfolding formed
root-field law s data_dev whole may =
    let blocks = blocks_at data_dev.image s.data_block 0 s.blocks in
    let good = law (shape_of s) may.shape s.salt blocks (data-blocks s data_dev whole may) 0 (omega (arith, may.shape.some)) in
    hangs-digest (shape_of s) s.salt 0 (root_over (shape_of s) s.salt data_dev.image) _ _ good.hangs
