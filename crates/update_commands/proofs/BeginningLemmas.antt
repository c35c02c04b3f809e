-- Devices whose superblock is cleared.
use Rattle.std.proofs.Common.{◌≡◌, ◌<◌, ◌≤◌, ◌/◌, ap, arith, inl, inr, ◌∙◌}
use Rattle.block_device.specs.Device.{Device}
use Rattle.image_commands.specs.Clearing.{IsCleared}
use Rattle.tree_shape.specs.Shape.{IsShape}
use Rattle.verity_format.specs.Image.{image_sectors}
use Rattle.verity_format.specs.Superblock.{SuperRecord, shape_of}
use Rattle.verity_format.proofs.lemmas.SizeLemmas.{block-size}

-- hash block 0 is a part of an image
pub image-some : (s : SuperRecord) → IsShape (shape_of s) → 0 < image_sectors (shape_of s)
image-some s valid =
    let least : 1 ≤ s.hash_block / 512 = (block-size s.hash_block valid.hash_size).least in
    omega (arith, least)

-- what may be written may be written after a clearing
pub may_write-cleared : (old new : Device) → IsCleared old new → new.may_write ≡ old.may_write
may_write-cleared old new (inl none) = ap (λ (d : Device). d.may_write) none.kept ∙ none.read.same.may_write
may_write-cleared old new (inr zeroed) = ap (λ (d : Device). d.may_write) zeroed.kept ∙ zeroed.written.same.may_write ∙ zeroed.read.same.may_write
