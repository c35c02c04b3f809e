-- Which refusal applies, test by test.
use Rattle.std.proofs.Common.{◌≡◌, ◌≤◌, ◌<◌, ◌==◌, ◌||◌, ◌⊎◌, inl, inr, cond, not, ℕ, Bool, true, false, nat_lt, List, Option, Some, None, refl, sym, ap, arith}
use Rattle.std.specs.Prelude.{is_some}
use Rattle.std.proofs.lemmas.Bool.Decides.{nat_tests}
use Rattle.block_device.specs.Device.{Device}
use Rattle.tree_shape.specs.Shape.{ShapeRecord, first_fault}
use Rattle.tree_shape.specs.declared.shape.ShapeFault.{ShapeFault}
use Rattle.verity_format.specs.declared.access.TreeFault.{TreeFault}
use Rattle.verity_format.specs.declared.access.TreeFault.TheVariants as tree
use Rattle.verity_format.specs.declared.decoding.SuperFault.{SuperFault}
use Rattle.verity_format.specs.declared.formatting.FormatFault.{FormatFault}
use Rattle.verity_format.specs.declared.formatting.FormatFault.TheVariants as format
use Rattle.verity_format.specs.declared.verifying.VerifyFault.{VerifyFault}
use Rattle.verity_format.specs.declared.verifying.VerifyFault.TheVariants as verify
use Rattle.verity_format.specs.Superblock.{SuperRecord, shape_of, super_fault, read_of}
use Rattle.verity_format.specs.Image.{data_sectors, image_sectors, tree_sectors}
use Rattle.verity_format.specs.Blocks.{block_at}
use Rattle.verity_format.specs.Formatting.{IsFormatCause, format_fault_of, format_refusal}
use Rattle.verity_format.specs.Trees.{IsBuildCause, tree_refusal}
use Rattle.verity_format.specs.Writing.{IsWriteCause}
use Rattle.verity_format.specs.Verifying.{IsReadCause, IsVerifyCause, is_too_small, refusal_of, verify_refusal}

some_fault : (o : Option ShapeFault) (f : ShapeFault) → Some f ≡ o → is_some o ≡ true
some_fault o f h = ap is_some (sym h)

-- a shape that has a fault
pub no_shape : (s : SuperRecord) (data_dev hash_dev : Device) (f : ShapeFault) → Some f ≡ first_fault (shape_of s) → format_refusal s data_dev hash_dev ≡ Some format.Shape
unfolding format_refusal
no_shape s data_dev hash_dev f h = rw (some_fault (first_fault (shape_of s)) f h) refl

pub same_some : {A : Type 0} (x y : A) → Some x ≡ Some y → x ≡ y
same_some x y h = cc

-- of the devices that verify compares
pub no_sector : (data_dev hash_dev : Device) (sector : List ℕ) → hash_dev.size ≡ 0 → verify_refusal data_dev hash_dev sector ≡ Some verify.TooSmall
unfolding verify_refusal
no_sector data_dev hash_dev sector h = rw h refl

some_sector : (n : ℕ) → 0 < n → (n == 0) ≡ false
some_sector n h = grind (arith, nat_tests)

pub wrong_field : (data_dev hash_dev : Device) (sector : List ℕ) (f : SuperFault) → 0 < hash_dev.size → super_fault sector ≡ Some f → verify_refusal data_dev hash_dev sector ≡ Some (verify.Super f)
unfolding verify_refusal
wrong_field data_dev hash_dev sector f some h = rw (some_sector hash_dev.size some, h) refl

-- why no superblock was read is why the devices are not compared
pub read-cause : (data_dev hash_dev hash_dev' : Device) (f : VerifyFault) → IsReadCause hash_dev hash_dev' f → IsVerifyCause data_dev hash_dev data_dev hash_dev' f
read-cause data_dev hash_dev hash_dev' verify.Device h = inr h
read-cause data_dev hash_dev hash_dev' verify.NoMemory h = absurd h
read-cause data_dev hash_dev hash_dev' verify.TooSmall h = (block_at hash_dev.image 512 0, (λ steady. refl, no_sector data_dev hash_dev _ h))
read-cause data_dev hash_dev hash_dev' (verify.Super f) h = (h.1.0, (h.1.1.0, wrong_field data_dev hash_dev h.1.0 f h.0 h.1.1.1))

-- a device that the data or the tree of a superblock goes past, or none
pub past-refused : (data_dev hash_dev : Device) (sector : List ℕ) (small : Bool) → 0 < hash_dev.size → super_fault sector ≡ None → is_too_small (shape_of (read_of sector)) data_dev hash_dev ≡ small
    → verify_refusal data_dev hash_dev sector ≡ refusal_of None small
unfolding verify_refusal
past-refused data_dev hash_dev sector small some none is = rw (some_sector hash_dev.size some, none, is) refl

-- a device's failure and a failed allocation are no refusals
no_failure : (o a b w : Bool) (n : ℕ)
    → cond o (Some format.Shape) (cond a (Some format.DataTooSmall) (cond b (Some (format.HashTooSmall n)) (cond (not w) (Some format.HashReadOnly) None))) ≡ Some format.Device → ⊥
no_failure true a b w n h = cc
no_failure false true b w n h = cc
no_failure false false true w n h = cc
no_failure false false false false n h = cc
no_failure false false false true n h = cc

no_memory : (o a b w : Bool) (n : ℕ)
    → cond o (Some format.Shape) (cond a (Some format.DataTooSmall) (cond b (Some (format.HashTooSmall n)) (cond (not w) (Some format.HashReadOnly) None))) ≡ Some format.NoMemory → ⊥
no_memory true a b w n h = cc
no_memory false true b w n h = cc
no_memory false false true w n h = cc
no_memory false false false false n h = cc
no_memory false false false true n h = cc

-- a refusal that applies is its own cause
pub refusal-cause : (s : SuperRecord) (data_dev hash_dev data_dev' hash_dev' : Device) (f : FormatFault) → format_refusal s data_dev hash_dev ≡ Some f → IsFormatCause s data_dev hash_dev data_dev' hash_dev' f
unfolding format_refusal
refusal-cause s data_dev hash_dev data_dev' hash_dev' format.Shape h = h
refusal-cause s data_dev hash_dev data_dev' hash_dev' format.DataTooSmall h = h
refusal-cause s data_dev hash_dev data_dev' hash_dev' (format.HashTooSmall n) h = h
refusal-cause s data_dev hash_dev data_dev' hash_dev' format.HashReadOnly h = h
refusal-cause s data_dev hash_dev data_dev' hash_dev' format.Device h =
    absurd (no_failure (is_some (first_fault (shape_of s))) (nat_lt data_dev.size (data_sectors (shape_of s))) (nat_lt hash_dev.size (image_sectors (shape_of s))) hash_dev.may_write (image_sectors (shape_of s)) h)
refusal-cause s data_dev hash_dev data_dev' hash_dev' format.NoMemory h =
    absurd (no_memory (is_some (first_fault (shape_of s))) (nat_lt data_dev.size (data_sectors (shape_of s))) (nat_lt hash_dev.size (image_sectors (shape_of s))) hash_dev.may_write (image_sectors (shape_of s)) h)

-- why no tree is made of the devices is its own cause
pub build-refused : (s : ShapeRecord) (data_dev hash_dev : Device) (f : FormatFault) → tree_refusal s data_dev hash_dev ≡ Some f → IsBuildCause s data_dev hash_dev data_dev hash_dev f
build-refused s data_dev hash_dev format.Shape h = (h, refl, refl)
build-refused s data_dev hash_dev format.DataTooSmall h = (h, refl, refl)
build-refused s data_dev hash_dev (format.HashTooSmall n) h = (h, refl, refl)
build-refused s data_dev hash_dev format.HashReadOnly h = (h, refl, refl)
build-refused s data_dev hash_dev format.Device h = absurd (no_failure false (nat_lt data_dev.size (data_sectors s)) (nat_lt hash_dev.size (tree_sectors s)) hash_dev.may_write (tree_sectors s) h)
build-refused s data_dev hash_dev format.NoMemory h = absurd (no_memory false (nat_lt data_dev.size (data_sectors s)) (nat_lt hash_dev.size (tree_sectors s)) hash_dev.may_write (tree_sectors s) h)

-- the fault that the fault of an unwritten tree becomes
pub build-cause : (s : ShapeRecord) (data_dev hash_dev data_dev' hash_dev' : Device) (f : TreeFault) → IsWriteCause data_dev hash_dev data_dev' hash_dev' f → IsBuildCause s data_dev hash_dev data_dev' hash_dev' (format_fault_of f)
build-cause s data_dev hash_dev data_dev' hash_dev' tree.Device (inl h) = inl h.0
build-cause s data_dev hash_dev data_dev' hash_dev' tree.Device (inr h) = inr h
build-cause s data_dev hash_dev data_dev' hash_dev' tree.NoMemory h = h
