-- Devices that have room for data blocks and a tree.
use Rattle.std.proofs.Common.{◌≡◌, ◌≤◌, ◌<◌, ◌*◌, ◌/◌, ◌∙◌, cond, not, ℕ, Bool, true, false, nat_lt, Some, None, ap, inl, inr, refl, arith}
use Rattle.std.specs.Prelude.{is_some}
use Rattle.std.proofs.Math.Nat.{zero-mul}
use Rattle.std.proofs.lemmas.Bool.Decides.{nat_tests}
use Rattle.block_device.specs.Device.{Device}
use Rattle.tree_shape.specs.Shape.{IsShape, ShapeRecord, area_blocks, first_fault, level_blocks, levels}
use Rattle.verity_format.specs.declared.formatting.FormatFault.TheVariants as format
use Rattle.verity_format.specs.Formatting.{format_refusal, room_refusal}
use Rattle.verity_format.specs.Image.{area_sectors, data_sectors, image_sectors, tree_sectors}
use Rattle.verity_format.specs.Superblock.{SuperRecord, shape_of}
use Rattle.verity_format.specs.Trees.{shape_alone}
use Rattle.verity_format.proofs.lemmas.SizeLemmas.{tree-end}

below : (m n : ℕ) → m < n → nat_lt m n ≡ true
below m n h = grind (arith, nat_tests)

not_below : (m n : ℕ) → n ≤ m → nat_lt m n ≡ false
not_below m n h = grind (arith, nat_tests)

module _ (s : ShapeRecord) (needed : ℕ) (data_dev hash_dev : Device) where
  pub data_too_small : data_dev.size < data_sectors s → room_refusal s needed data_dev hash_dev ≡ Some format.DataTooSmall
  data_too_small h = rw (below data_dev.size (data_sectors s) h) refl

  pub hash_too_small : data_sectors s ≤ data_dev.size → hash_dev.size < needed → room_refusal s needed data_dev hash_dev ≡ Some (format.HashTooSmall needed)
  hash_too_small fits h = rw (not_below data_dev.size (data_sectors s) fits, below hash_dev.size needed h) refl

  pub read_only : data_sectors s ≤ data_dev.size → needed ≤ hash_dev.size → hash_dev.may_write ≡ false → room_refusal s needed data_dev hash_dev ≡ Some format.HashReadOnly
  read_only fits room h = rw (not_below data_dev.size (data_sectors s) fits, not_below hash_dev.size needed room, h) refl

  pub not_refused : data_sectors s ≤ data_dev.size → needed ≤ hash_dev.size → hash_dev.may_write ≡ true → room_refusal s needed data_dev hash_dev ≡ None
  not_refused fits room h = rw (not_below data_dev.size (data_sectors s) fits, not_below hash_dev.size needed room, h) refl

nothing_of : (a b w : Bool) (n : ℕ) → cond a (Some format.DataTooSmall) (cond b (Some (format.HashTooSmall n)) (cond (not w) (Some format.HashReadOnly) None)) ≡ None
    → (a ≡ false) × (b ≡ false) × (w ≡ true)
nothing_of false false true n h = (refl, refl, refl)
nothing_of true b w n h = cc
nothing_of false true w n h = cc
nothing_of false false false n h = cc

at_least : (m n : ℕ) → nat_lt m n ≡ false → n ≤ m
at_least m n h = grind (arith, nat_tests)

-- what no refusal says of the devices
pub fits-from_none : (s : ShapeRecord) (needed : ℕ) (data_dev hash_dev : Device) → room_refusal s needed data_dev hash_dev ≡ None
    → (data_sectors s ≤ data_dev.size) × (needed ≤ hash_dev.size) × (hash_dev.may_write ≡ true)
fits-from_none s needed data_dev hash_dev h =
    let parts = nothing_of (nat_lt data_dev.size (data_sectors s)) (nat_lt hash_dev.size needed) hash_dev.may_write needed h in
    (at_least data_dev.size (data_sectors s) parts.0, at_least hash_dev.size needed parts.1, parts.2)

-- a superblock that has a shape is refused for the devices alone
pub format-room : (s : SuperRecord) (data_dev hash_dev : Device) → first_fault (shape_of s) ≡ None → (t : ShapeRecord) (n : ℕ) → t ≡ shape_of s → n ≡ image_sectors t
    → room_refusal t n data_dev hash_dev ≡ format_refusal s data_dev hash_dev
unfolding format_refusal
format-room s data_dev hash_dev sound t n shape needed =
    ap (λ (m : ℕ). room_refusal t m data_dev hash_dev) needed
    ∙ ap (λ (u : ShapeRecord). room_refusal u (image_sectors u) data_dev hash_dev) shape
    ∙ (rw (ap is_some sound) refl)

-- a tree's number of blocks doesn't depend on where it begins
area-alone : (s : SuperRecord) → area_blocks (shape_alone s) ≡ area_blocks (shape_of s)
unfolding area_blocks level_blocks levels
area-alone s = refl

-- a tree's blocks lie before its end
pub area-within : (s : ShapeRecord) → area_sectors s ≤ tree_sectors s
area-within s =
    elim (tree-end s) [
      | inl end ↦ omega (arith, end)
      | inr none ↦ (let empty : area_sectors s ≡ 0 = ap (λ (n : ℕ). n * (s.hash_block / 512)) none.1 ∙ zero-mul (s.hash_block / 512) in omega (arith, empty))
    ]

-- the tree of a superblock has a shape without the superblock too
pub alone-valid : (s : SuperRecord) → IsShape (shape_of s) → IsShape (shape_alone s)
alone-valid s valid =
    let same : area_sectors (shape_alone s) ≡ area_sectors (shape_of s) = ap (λ (n : ℕ). n * (s.hash_block / 512)) (area-alone s) in
    let none : 0 * (s.hash_block / 512) ≡ 0 = zero-mul (s.hash_block / 512) in
    record {
      data_size = valid.data_size;
      hash_size = valid.hash_size;
      some = valid.some;
      data_fits = valid.data_fits;
      tree_fits = elim (tree-end (shape_alone s)) [
        | inl end ↦ omega (arith, end, none, same, area-within (shape_of s), valid.tree_fits)
        | inr empty ↦ omega (arith, empty.0)
      ];
    }
