-- The root hash block of a tree, read and checked.
use Rattle.std.proofs.Common.{◌≡◌, ◌<◌, ◌+◌, ◌-◌, ◌*◌, ◌/◌, ℕ, Bool, List, Option, refl, sym, ap, ◌∙◌, subst, arith}
use Rattle.std.proofs.Math.Path.{subst₃}
use Rattle.block_device.specs.Device.{Device}
use Rattle.tree_shape.specs.Digests.{digest}
use Rattle.tree_shape.specs.Shape.{ShapeRecord, IsShape, ancestor, levels}
use Rattle.verity_format.specs.declared.verifying.VerifyFault.TheVariants.{Super, TooSmall, Device as DeviceFailed, NoMemory as NoRoom}
use Rattle.verity_format.specs.Blocks.{IsFullRead}
use Rattle.verity_format.specs.declared.tree.VerityTree.{VerityTree}
use Rattle.tree_path.specs.Path.{PathRecord, IsPathOf, LeadsTo, AreStored, block_of, stored_block}
use Rattle.tree_path.specs.Steps.{IsDown, IsStopped, steps}
use Rattle.tree_path.proofs.lemmas.PathLemmas.{digest_on-top}
use Rattle.tree_difference.specs.declared.fault.DifferenceFault.{DifferenceFault}
use Rattle.tree_difference.specs.declared.fault.DifferenceFault.TheVariants.{Image, Unaligned, Unpinned, Unlike, Hash, NoMemory, Write}
use Rattle.tree_difference.specs.declared.fault.Which.{Which}
use Rattle.tree_difference.specs.declared.fault.Which.TheVariants.{First, Second}
use Rattle.tree_difference.specs.declared.trees.TreePair.{TreePair}
use Rattle.tree_difference.specs.Causes.{IsBadBlock, IsWayCause}
use Rattle.tree_difference.specs.Comparisons.{difference_world}
use Rattle.tree_difference.specs.Differences.{IsDifferenceCause}
use Rattle.tree_difference.specs.RootBlocks.{IsRootCause, IsRootRead, root_level, root_sectors}
use Rattle.tree_difference.proofs.WalkLemmas.{bad-block}

module _ (s : ShapeRecord) (salt root : List ℕ) (p q : PathRecord) (d d' : Device) (is : IsPathOf s salt root p) where
  pub root-read : IsDown (steps p q d d' 0 (levels s)) (root_level s) (root_level s) → IsRootRead s salt root d
  root-read down = record {
    block = block_of q (root_level s);
    good = λ some.
        let shape : q.shape ≡ s = down.same.shape_is ∙ is.shape_is in
        let salts : q.salt ≡ salt = down.same.salt_is ∙ is.salt_is in
        let top : root_level s + 1 ≡ levels s = omega (arith, some) in
        let high : root_level s + 1 ≡ levels q.shape = top ∙ ap levels (sym shape) in
        subst (λ (x : List ℕ). digest x (block_of q (root_level s)) ≡ root) salts
        (down.goods (root_level s) (omega arith) (omega (arith, some)) ∙ digest_on-top q 0 (root_level s + 1) high ∙ down.same.root_is ∙ is.root_is);
    stored = λ steady some. subst (λ (x : ShapeRecord). block_of q (root_level s) ≡ stored_block x d.image (root_level s) 0) is.shape_is (down.stored steady (root_level s) (omega arith) (omega (arith, some)));
  }

  pub root-full : IsDown (steps p q d d' 0 (levels s)) (root_level s) (root_level s) → IsFullRead d (root_sectors s) d'
  root-full down = subst (λ (x : ShapeRecord). IsFullRead d ((levels s - root_level s) * (x.hash_block / 512)) d') is.shape_is down.full

  root-bad : (level number : ℕ) → IsShape s → IsStopped (steps p q d d' 0 (levels s)) (root_level s) level → number ≡ ancestor p.shape (level + 1) 0 → IsBadBlock s salt root d level number
  root-bad level number valid stop number-is =
      let top : levels s ≡ root_level s + 1 = omega (arith, stop.between.0, stop.between.1) in
      let high : root_level s + 1 ≡ levels p.shape = sym top ∙ ap levels (sym is.shape_is) in
      let some : 0 < p.shape.blocks = omega (arith, valid.some, ap (λ (x : ShapeRecord). x.blocks) is.shape_is) in
      let leads : LeadsTo p 0 (root_level s + 1) = record { up = λ l le low. absurd (omega (arith, le, low, high)) } in
      let stored : AreStored p d.image 0 (root_level s + 1) = record { up = λ l le low. absurd (omega (arith, le, low, high)) } in
      let here = subst (λ (n : ℕ). IsStopped (steps p q d d' 0 n) (root_level s) level) top stop in
      subst₃ (λ (x : ShapeRecord) (y z : List ℕ). IsBadBlock x y z d level number) is.shape_is is.salt_is is.root_is
      (bad-block p q d d' 0 (root_level s) level number here leads (λ steady. stored) some (omega (arith, high)) number-is)

pub root-cause : (t : VerityTree) (root : List ℕ) (p q : PathRecord) (d d' : Device) (which : Which) (fault : DifferenceFault) → IsPathOf t.shape t.salt root p → IsShape t.shape
    → IsWayCause (steps p q d d' 0 (levels t.shape)) which (root_level t.shape) fault → IsRootCause t root d d' which fault
root-cause t root p q d d' which (Hash tree level number) is valid h = (h.0, root-bad t.shape t.salt root p q d d' is level number valid h.1 h.2)
root-cause t root p q d d' which (Image tree DeviceFailed) is valid h = h
root-cause t root p q d d' which (Image tree (Super f)) is valid h = absurd h
root-cause t root p q d d' which (Image tree TooSmall) is valid h = absurd h
root-cause t root p q d d' which (Image tree NoRoom) is valid h = absurd h
root-cause t root p q d d' which (Unaligned tree) is valid h = absurd h
root-cause t root p q d d' which (Unpinned tree mismatch) is valid h = absurd h
root-cause t root p q d d' which (Unlike f) is valid h = absurd h
root-cause t root p q d d' which NoMemory is valid h = absurd h
root-cause t root p q d d' which Write is valid h = absurd h

module _ (pair : TreePair) (d d' e : Device) (old new : Option (List ℕ)) (failed : Bool) where
  pub first-cause : (fault : DifferenceFault) → IsRootCause pair.first pair.roots.first d d' First fault → IsDifferenceCause (difference_world d e d' e old new) pair failed fault
  first-cause (Hash First level number) h = h.1
  first-cause (Hash Second level number) h = let clash : Second ≡ First = h.0 in absurd (cc)
  first-cause (Image First DeviceFailed) h = h.1
  first-cause (Image Second DeviceFailed) h = let clash : Second ≡ First = h.0 in absurd (cc)
  first-cause (Image tree (Super f)) h = absurd h
  first-cause (Image tree TooSmall) h = absurd h
  first-cause (Image tree NoRoom) h = absurd h
  first-cause (Unaligned tree) h = absurd h
  first-cause (Unpinned tree mismatch) h = absurd h
  first-cause (Unlike f) h = absurd h
  first-cause NoMemory h = (ap (λ (x : Device). x.failures) h.0, refl, h.1)
  first-cause Write h = absurd h

  pub second-cause : (e' : Device) (fault : DifferenceFault) → d'.failures ≡ d.failures → IsRootCause pair.second pair.roots.second e e' Second fault → IsDifferenceCause (difference_world d e d' e' old new) pair failed fault
  second-cause e' (Hash Second level number) df h = h.1
  second-cause e' (Hash First level number) df h = let clash : First ≡ Second = h.0 in absurd (cc)
  second-cause e' (Image Second DeviceFailed) df h = h.1
  second-cause e' (Image First DeviceFailed) df h = let clash : First ≡ Second = h.0 in absurd (cc)
  second-cause e' (Image tree (Super f)) df h = absurd h
  second-cause e' (Image tree TooSmall) df h = absurd h
  second-cause e' (Image tree NoRoom) df h = absurd h
  second-cause e' (Unaligned tree) df h = absurd h
  second-cause e' (Unpinned tree mismatch) df h = absurd h
  second-cause e' (Unlike f) df h = absurd h
  second-cause e' NoMemory df h = (df, ap (λ (x : Device). x.failures) h.0, h.1)
  second-cause e' Write df h = absurd h
