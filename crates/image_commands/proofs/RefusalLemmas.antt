-- Which refusal applies to a format.
use Rattle.std.proofs.Common.{◌≡◌, ◌≤◌, ◌<◌, ◌/◌, Some, refl, inl, inr, arith}
use Rattle.std.specs.Prelude.{IsSome}
use Rattle.block_device.specs.Device.{Device}
use Rattle.tree_shape.specs.Shape.{IsShape, first_fault}
use Rattle.tree_shape.proofs.lemmas.ShapeFaultLemmas.{is_block_size-cases}
use Rattle.verity_format.specs.declared.formatting.FormatFault.TheVariants as format
use Rattle.verity_format.specs.Superblock.{SuperRecord, shape_of}
use Rattle.verity_format.specs.Image.{image_sectors}
use Rattle.verity_format.specs.Formatting.{format_refusal}

pub no_shape : (s : SuperRecord) (data_dev hash_dev : Device) → IsSome (first_fault (shape_of s)) → format_refusal s data_dev hash_dev ≡ Some format.Shape
unfolding format_refusal
no_shape s data_dev hash_dev h = rw h refl

-- hash block 0 is a part of an image
pub image-some : (s : SuperRecord) → IsShape (shape_of s) → 0 < image_sectors (shape_of s)
image-some s valid =
    let some : 1 ≤ s.hash_block / 512 = elim (is_block_size-cases s.hash_block valid.hash_size) [
      | inl small ↦ elim small [ inl e ↦ omega (arith, e) | inr e ↦ omega (arith, e) ]
      | inr large ↦ elim large [ inl e ↦ omega (arith, e) | inr e ↦ omega (arith, e) ]
    ] in
    omega (arith, some)
