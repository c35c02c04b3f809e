-- Hash blocks read one after another, and those that aren't good.
use Rattle.std.proofs.Common.{◌≡◌, ◌≢◌, ◌<◌, ◌+◌, ◌&&◌, ℕ, suc, Bool, true, false, List, None, refl, sym, ap, ◌∙◌, subst, arith, inl, inr}
use Rattle.std.specs.Str.{bytes_eq}
use Rattle.std.proofs.lemmas.Bool.{false≢true}
use Rattle.std.proofs.lemmas.Slice.Eq.{bytes_eq-Decides}
use Rattle.block_device.specs.Device.{Device}
use Rattle.tree_shape.specs.Digests.{digest}
use Rattle.tree_shape.specs.Shape.{ShapeRecord, ancestor, levels}
use Rattle.tree_path.specs.Path.{PathRecord, IsPathOf, block_of, digest_on, stored_block, stored_digest}
use Rattle.tree_path.specs.Steps.{IsDown, IsStepLoaded, IsUnloaded, steps}
use Rattle.tree_path.specs.Unused.{is_unused_zero}
use Rattle.verity_format.proofs.lemmas.DeviceLemmas.{steady-then}
use Rattle.tree_path.proofs.lemmas.PathLemmas.{digest_on-stored, down-bad, down-good, down-none, down-read}
use Rattle.tree_survey.specs.Failing.{IsReadOver}
use Rattle.tree_survey.specs.Hashes.{IsAbove, IsCompared, has_digest_above, is_zero_after_used, tree_of_path}
use Rattle.tree_survey.specs.Paths.{IsLoadedOr}
use Rattle.tree_survey.proofs.FailingLemmas.{failed-later}

pub path-none : (p : PathRecord) → IsPathOf p.shape p.salt p.root p
path-none p = record { shape_is = refl; salt_is = refl; root_is = refl }

pub path-then : (p q r : PathRecord) → IsPathOf p.shape p.salt p.root q → IsPathOf q.shape q.salt q.root r → IsPathOf p.shape p.salt p.root r
path-then p q r a b = record { shape_is = b.shape_is ∙ a.shape_is; salt_is = b.salt_is ∙ a.salt_is; root_is = b.root_is ∙ a.root_is }

-- ---- one hash block

-- it was read, and is good or not
pub record IsOneRead (p q : PathRecord) (d d' : Device) (i l : ℕ) (good : Bool) : Type 0 where
  pub down : IsDown (steps p q d d' i (suc l)) (suc l) l
  pub test : good ≡ bytes_eq (digest q.salt (block_of q l)) (digest_on q i (l + 1))

module _ (p q : PathRecord) (d d' : Device) (i l : ℕ) where
  test-true : (xs ys : List ℕ) → xs ≡ ys → true ≡ bytes_eq xs ys
  test-true xs ys same = sym ((bytes_eq-Decides xs ys).1 same)

  test-false : (xs ys : List ℕ) → xs ≢ ys → false ≡ bytes_eq xs ys
  test-false xs ys apart = go (bytes_eq xs ys) refl
    where
      go : (b : Bool) → bytes_eq xs ys ≡ b → false ≡ bytes_eq xs ys
      go true e = absurd (apart ((bytes_eq-Decides xs ys).0 e))
      go false e = sym e

  pub one-read : (good : Bool) → IsStepLoaded (steps p q d d' i l) good → IsOneRead p q d d' i l good
  one-read true loaded = record {
    down = down-read p p q d d d' i (suc l) l (omega arith) (down-none p d i (suc l)) true loaded;
    test = test-true _ _ ((down-good p p q d d d' i (suc l) l (omega arith) (down-none p d i (suc l)) true loaded refl).goods l (omega arith) (omega arith));
  }
  one-read false loaded = record {
    down = down-read p p q d d d' i (suc l) l (omega arith) (down-none p d i (suc l)) false loaded;
    test = test-false _ _ (down-bad p p q d d d' i (suc l) l (omega arith) (down-none p d i (suc l)) false loaded refl);
  }

  -- it couldn't be
  pub path-unloaded : IsUnloaded (steps p q d d' i l) → IsPathOf p.shape p.salt p.root q
  path-unloaded un = record { shape_is = ap (λ (x : PathRecord). x.shape) un.is; salt_is = ap (λ (x : PathRecord). x.salt) un.is; root_is = ap (λ (x : PathRecord). x.root) un.is }

  pub above-read : (m : ℕ) → m + 1 ≡ l → (good : Bool) → IsStepLoaded (steps p q d d' i l) good → IsAbove p q d d' m i true
  above-read m is good loaded =
      let one = one-read good loaded in
      record {
        same = one.down.same;
        stored = λ read steady low. subst (λ (n : ℕ). block_of q n ≡ stored_block p.shape d.image n i) (sym is) (one.down.stored steady l (omega arith) (omega arith));
        failed = λ not. absurd (false≢true (sym not));
      }

  pub above-unread : (m : ℕ) → IsLoadedOr (steps p q d d' i l) None → IsAbove p q d d' m i false
  above-unread m (un, unsure) = record { same = path-unloaded un; stored = λ read. absurd (false≢true read); failed = λ not. (un.fault.failed, unsure) }

pub above-none : (p : PathRecord) (d : Device) (l i : ℕ) → l + 1 ≡ levels p.shape → IsAbove p p d d l i true
above-none p d l i top = record { same = path-none p; stored = λ read steady low. absurd (omega (arith, low, top)); failed = λ not. absurd (false≢true (sym not)) }

-- a hash block is compared after the one above it
pub compared : (p q r : PathRecord) (d d' d'' : Device) (i l : ℕ) (stands zeros : Bool) → l < levels p.shape → IsReadOver d d' → IsAbove p q d d' l i true → IsStepLoaded (steps q r d' d'' i l) stands
    → zeros ≡ is_unused_zero r.shape l (ancestor r.shape (l + 1) i) (block_of r l) → IsCompared p r d d'' l i (stands && zeros)
compared p q r d d' d'' i l stands zeros low over above loaded zeros_are =
    let one : IsOneRead q r d' d'' i l stands = one-read q r d' d'' i l stands loaded in
    let same : IsPathOf p.shape p.salt p.root r = path-then p q r above.same one.down.same in
    record {
      same = same;
      stored = λ steady.
          let block : block_of r l ≡ stored_block p.shape d.image l i =
          one.down.stored (steady-then over.read.same steady) l (omega arith) (omega arith)
          ∙ ap (λ (s : ShapeRecord). stored_block s d'.image l i) above.same.shape_is
          ∙ ap (λ (im : List (List ℕ)). stored_block p.shape im l i) (over.read.image steady) in
          let next : digest_on r i (l + 1) ≡ stored_digest p.shape p.root d.image i (l + 1) =
          digest_on-stored r d.image i (l + 1) (omega (arith, low, ap levels same.shape_is))
          (λ under. one.down.kept (l + 1) (omega arith) ∙ above.stored refl steady (omega (arith, under, ap levels same.shape_is)) ∙ ap (λ (s : ShapeRecord). stored_block s d.image (l + 1) i) (sym same.shape_is))
          ∙ ap (λ (s : ShapeRecord). stored_digest s r.root d.image i (l + 1)) same.shape_is
          ∙ ap (λ (x : List ℕ). stored_digest p.shape x d.image i (l + 1)) same.root_is in
          let digests : stands ≡ has_digest_above (tree_of_path p) d.image l i =
          one.test
          ∙ ap (λ (z : List ℕ). bytes_eq (digest z (block_of r l)) (digest_on r i (l + 1))) same.salt_is
          ∙ ap (λ (b : List ℕ). bytes_eq (digest p.salt b) (digest_on r i (l + 1))) block
          ∙ ap (bytes_eq (digest p.salt (stored_block p.shape d.image l i))) next in
          let unused : zeros ≡ is_zero_after_used p.shape d.image l i =
          zeros_are
          ∙ ap (λ (s : ShapeRecord). is_unused_zero s l (ancestor s (l + 1) i) (block_of r l)) same.shape_is
          ∙ ap (is_unused_zero p.shape l (ancestor p.shape (l + 1) i)) block in
          inl (ap (λ (x : Bool). x && zeros) digests ∙ ap (λ (x : Bool). has_digest_above (tree_of_path p) d.image l i && x) unused);
    }

-- one of the two couldn't be read
pub compared-none : (p q : PathRecord) (d d' : Device) (i l : ℕ) → IsAbove p q d d' l i false → IsCompared p q d d' l i false
compared-none p q d d' i l above = record { same = above.same; stored = λ steady. inr (refl, above.failed refl) }

pub compared-unread : (p q r : PathRecord) (d d' d'' : Device) (i l : ℕ) → IsReadOver d d' → IsReadOver d' d'' → IsAbove p q d d' l i true → IsLoadedOr (steps q r d' d'' i l) None → IsCompared p r d d'' l i false
compared-unread p q r d d' d'' i l over later above (un, unsure) = record {
  same = path-then p q r above.same (path-unloaded q r d' d'' i l un);
  stored = λ steady. inr (refl, failed-later over later (un.fault.failed, unsure));
}
