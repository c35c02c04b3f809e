-- The walk down the higher tree, and the comparison, one after another.
use Rattle.std.proofs.Common.{◌≡◌, ◌+◌, ◌-◌, ◌*◌, ◌/◌, ◌==◌, ℕ, Bool, true, false, not, cond, List, [], length, get_or, Option, Some, None, refl, sym, ap, ◌∙◌, subst, arith}
use Rattle.std.specs.Str.{bytes_eq}
use Rattle.std.proofs.lemmas.Bool.{eqb-true}
use Rattle.std.proofs.lemmas.Slice.Eq.{bytes_eq-Decides}
use Rattle.block_device.specs.Device.{Device}
use Rattle.tree_shape.specs.Shape.{ShapeRecord, IsShape, levels}
use Rattle.verity_format.specs.declared.verifying.VerifyFault.TheVariants.{Super, TooSmall, Device as DeviceFailed, NoMemory as NoRoom}
use Rattle.verity_format.specs.Blocks.{IsFullRead, IsOnlyRead}
use Rattle.verity_format.specs.Image.{tree_sectors}
use Rattle.verity_format.specs.declared.tree.VerityTree.{VerityTree}
use Rattle.tree_path.specs.Path.{PathRecord, LeadsTo, AreStored}
use Rattle.verity_format.proofs.lemmas.DeviceLemmas.{failed-then, full_read-then, steady-then}
use Rattle.tree_path.proofs.lemmas.PathLemmas.{leads-down, stored-down}
use Rattle.runs.specs.Kinds.{State}
use Rattle.tree_difference.specs.declared.difference.Totals.{Totals}
use Rattle.tree_difference.specs.declared.fault.DifferenceFault.{DifferenceFault}
use Rattle.tree_difference.specs.declared.fault.DifferenceFault.TheVariants.{Image, Unaligned, Unpinned, Unlike, Hash, NoMemory, Write}
use Rattle.tree_difference.specs.declared.fault.Unlike.{Unlike as Field}
use Rattle.tree_difference.specs.declared.fault.Unlike.TheVariants.{DataBlockSize, HashBlockSize, Salt}
use Rattle.tree_difference.specs.declared.fault.Which.TheVariants.{First, Second}
use Rattle.tree_difference.specs.declared.trees.TreePair.{TreePair}
use Rattle.tree_difference.specs.declared.walk.Walk.{Walk}
use Rattle.tree_difference.specs.Causes.{IsWalkCause}
use Rattle.tree_difference.specs.Comparisons.{AreStatesSeen, Compares, ReadsDiffering, difference_world}
use Rattle.tree_difference.specs.Differences.{AreShapes, CanCompare, HaveTrees, IsAligned, IsComparisonCause, IsDifferenceCause, IsWalkOf, sectors_before, trees_in, trees_of}
use Rattle.tree_difference.specs.Refusals.{CanCompareTrees}
use Rattle.tree_difference.specs.RootBlocks.{root_sectors}
use Rattle.tree_difference.specs.Likeness.{unlike}
use Rattle.tree_difference.specs.Trees.{Trees, AreComparable, IsStoredAs, common_levels}
use Rattle.tree_difference.specs.Walks.{AreSameTrees, IsOn, walk_sides}
use Rattle.tree_difference.proofs.WalkLemmas.{bad-same, on-read}

-- which field is named, by what is the same
field_by : Bool → Bool → Bool → Option Field
field_by x y z = cond (not x) (Some DataBlockSize) (cond (not y) (Some HashBlockSize) (cond (not z) (Some Salt) None))

all-same : (x y z : Bool) → field_by x y z ≡ None → (x ≡ true) × (y ≡ true) × (z ≡ true)
unfolding field_by
all-same true true true e = (refl, refl, refl)
all-same false y z e = let clash : Some DataBlockSize ≡ None = e in cc
all-same true false z e = let clash : Some HashBlockSize ≡ None = e in cc
all-same true true false e = let clash : Some Salt ≡ None = e in cc

pub alike-of : (pair : TreePair) → unlike pair.first pair.second ≡ None → AreComparable (trees_of pair)
unfolding field_by
alike-of pair none =
    let a : VerityTree = pair.first in
    let b : VerityTree = pair.second in
    let parts = all-same (a.shape.data_block == b.shape.data_block) (a.shape.hash_block == b.shape.hash_block) (bytes_eq a.salt b.salt) none in
    record {
      data_block = sym (eqb-true a.shape.data_block b.shape.data_block parts.0);
      hash_block = sym (eqb-true a.shape.hash_block b.shape.hash_block parts.1);
      salt = sym ((bytes_eq-Decides a.salt b.salt).0 parts.2);
    }

-- both trees lie on the devices
pub have-trees : (pair : TreePair) (w : Walk) (d d' e e' : Device) → IsWalkOf (trees_of pair) w → CanCompareTrees pair d.size e.size → AreShapes (trees_of pair) → d'.size ≡ d.size → e'.size ≡ e.size → HaveTrees w d' e'
have-trees pair w d d' e e' of can valid ds es =
    let first_shape : w.first.shape ≡ pair.first.shape = ap (λ (x : Trees). x.first) of.trees in
    let second_shape : w.second.shape ≡ pair.second.shape = ap (λ (x : Trees). x.second) of.trees in
    record {
      of = subst (λ (x : Trees). IsWalkOf x w) (sym of.trees) of;
      alike = subst AreComparable (sym of.trees) (alike-of pair can.alike);
      first_valid = subst IsShape (sym first_shape) valid.0;
      second_valid = subst IsShape (sym second_shape) valid.1;
      first_fits = omega (arith, can.first_fits, ds, ap tree_sectors first_shape);
      second_fits = omega (arith, can.second_fits, es, ap tree_sectors second_shape);
    }

module _ (w w' : Walk) (d e d' e' : Device) (have : HaveTrees w d e) (h : IsAligned (walk_sides w w' d e d' e')) where
  pub aligned-trees : AreSameTrees w w'
  aligned-trees = record { first = h.first.same; second = h.second.same; shape = h.shape; levels = h.levels; blocks = h.blocks }

  -- nothing is above the highest level
  leads-none : (p : PathRecord) → LeadsTo p 0 (levels p.shape)
  leads-none p = record { up = λ l le low. absurd (omega (arith, le, low)) }

  stored-none : (p : PathRecord) (image : List (List ℕ)) → AreStored p image 0 (levels p.shape)
  stored-none p image = record { up = λ l le low. absurd (omega (arith, le, low)) }

  aligned-on : IsOn w' d e 0 w.levels
  aligned-on = record {
    first_leads = leads-down w.first w'.first d d' 0 (levels w.first.shape) w.levels w.levels h.first (leads-none w.first);
    second_leads = leads-down w.second w'.second e e' 0 (levels w.second.shape) w.levels w.levels h.second (leads-none w.second);
    first_stored = λ steady. stored-down w.first w'.first d d' 0 (levels w.first.shape) w.levels w.levels h.first steady (stored-none w.first d.image);
    second_stored = λ steady. stored-down w.second w'.second e e' 0 (levels w.second.shape) w.levels w.levels h.second steady (stored-none w.second e.image);
    differ = λ m low most. absurd (omega (arith, low, most, h.levels));
  }

  pub same-trees : trees_in w' ≡ trees_in w
  same-trees =
      let f : ShapeRecord → List ℕ → List ℕ → ShapeRecord → List ℕ → List ℕ → Trees = λ s x r s' x' r'. record { first = s; second = s'; first_salt = x; second_salt = x'; first_root = r; second_root = r' } in
      ap (λ (s : ShapeRecord). f s w'.first.salt w'.first.root w'.second.shape w'.second.salt w'.second.root) h.first.same.shape_is
      ∙ ap (λ (s : List ℕ). f w.first.shape s w'.first.root w'.second.shape w'.second.salt w'.second.root) h.first.same.salt_is
      ∙ ap (λ (s : List ℕ). f w.first.shape w.first.salt s w'.second.shape w'.second.salt w'.second.root) h.first.same.root_is
      ∙ ap (λ (s : ShapeRecord). f w.first.shape w.first.salt w.first.root s w'.second.salt w'.second.root) h.second.same.shape_is
      ∙ ap (λ (s : List ℕ). f w.first.shape w.first.salt w.first.root w.second.shape s w'.second.root) h.second.same.salt_is
      ∙ ap (λ (s : List ℕ). f w.first.shape w.first.salt w.first.root w.second.shape w.second.salt s) h.second.same.root_is

  pub can-compare : CanCompare w' d' e'
  can-compare = record {
    have = record {
      of = subst (λ (x : Trees). IsWalkOf x w') (sym same-trees) (record {
        trees = same-trees;
        shape = h.shape ∙ have.of.shape;
        levels = h.levels ∙ have.of.levels;
        blocks = h.blocks ∙ have.of.blocks;
      });
      alike = subst AreComparable (sym same-trees) have.alike;
      first_valid = subst IsShape (sym h.first.same.shape_is) have.first_valid;
      second_valid = subst IsShape (sym h.second.same.shape_is) have.second_valid;
      first_fits = omega (arith, have.first_fits, h.first.full.read.same.size, ap tree_sectors h.first.same.shape_is);
      second_fits = omega (arith, have.second_fits, h.second.full.read.same.size, ap tree_sectors h.second.same.shape_is);
    };
    on = subst (IsOn w' d' e' 0) (sym h.levels) (on-read w' d e d' e' 0 w.levels h.first.full.read h.second.full.read aligned-on);
  }

-- what is seen of devices that were read before
pub seen-was : (t : Trees) (d e d' e' d'' e'' : Device) (old new : Option (List ℕ)) (compared : List State) → IsOnlyRead d d' → IsOnlyRead e e' → AreStatesSeen t (difference_world d' e' d'' e'' old new) compared → AreStatesSeen t (difference_world d e d'' e'' old new) compared
seen-was t d e d' e' d'' e'' old new compared p q s = record {
  seen = s.seen;
  stored = λ steady steady' j low.
      subst (λ (im : List (List ℕ)). IsStoredAs t (record { first_image = im; second_image = e.image }) j (get_or compared j None)) (p.image steady)
      (subst (λ (im : List (List ℕ)). IsStoredAs t (record { first_image = d'.image; second_image = im }) j (get_or compared j None)) (q.image steady')
      (s.stored (steady-then p.same steady) (steady-then q.same steady') j low));
}

pub compares-was : (t : Trees) (d e d' e' d'' e'' : Device) (old new : Option (List ℕ)) (most : Option ℕ) (totals : Totals) → IsOnlyRead d d' → IsOnlyRead e e' → Compares t (difference_world d' e' d'' e'' old new) most totals → Compares t (difference_world d e d'' e'' old new) most totals
compares-was t d e d' e' d'' e'' old new most totals p q c = record {
  compared = c.compared;
  count = c.count;
  seen = seen-was t d e d' e' d'' e'' old new c.compared p q c.seen;
  totals_are = c.totals_are;
  printed_are = c.printed_are;
}

pub reads-was : (t : Trees) (d e d' e' d'' e'' : Device) (old new : Option (List ℕ)) (n m : ℕ) → IsFullRead d n d' → IsFullRead e m e' → ReadsDiffering t (difference_world d' e' d'' e'' old new) 0 0 → ReadsDiffering t (difference_world d e d'' e'' old new) n m
reads-was t d e d' e' d'' e'' old new n m p q r = record {
  entries = r.entries;
  entered = r.entered;
  first_read = full_read-then n (0 + length r.entries * (t.first.hash_block / 512)) (n + length r.entries * (t.first.hash_block / 512)) p r.first_read (omega arith);
  second_read = full_read-then m (0 + length r.entries * (t.second.hash_block / 512)) (m + length r.entries * (t.second.hash_block / 512)) q r.second_read (omega arith);
}

-- ---- causes

module _ (pair : TreePair) (w : Walk) (d d' e e' d'' e'' : Device) (old new : Option (List ℕ)) (failed : Bool) (of : trees_in w ≡ trees_of pair) (p : IsOnlyRead d d') (q : IsOnlyRead e e') (df : d'.failures ≡ d.failures) (ef : e'.failures ≡ e.failures) where
  first-path : PathRecord
  first-path = record { shape = pair.first.shape; salt = pair.first.salt; root = pair.roots.first; blocks = [] }

  second-path : PathRecord
  second-path = record { shape = pair.second.shape; salt = pair.second.salt; root = pair.roots.second; blocks = [] }

  pub walk-cause : (fault : DifferenceFault) → IsWalkCause w d' e' d'' e'' fault → IsDifferenceCause (difference_world d e d'' e'' old new) pair failed fault
  unfolding first-path second-path
  walk-cause (Hash First level number) h =
      bad-same first-path w.first d d' level number
      (record { shape_is = ap (λ (x : Trees). x.first) of; salt_is = ap (λ (x : Trees). x.first_salt) of; root_is = ap (λ (x : Trees). x.first_root) of }) p h
  walk-cause (Hash Second level number) h =
      bad-same second-path w.second e e' level number
      (record { shape_is = ap (λ (x : Trees). x.second) of; salt_is = ap (λ (x : Trees). x.second_salt) of; root_is = ap (λ (x : Trees). x.second_root) of }) q h
  walk-cause (Image First DeviceFailed) h = failed-then d d' d'' df h
  walk-cause (Image Second DeviceFailed) h = failed-then e e' e'' ef h
  walk-cause (Image First (Super f)) h = absurd h
  walk-cause (Image First TooSmall) h = absurd h
  walk-cause (Image First NoRoom) h = absurd h
  walk-cause (Image Second (Super f)) h = absurd h
  walk-cause (Image Second TooSmall) h = absurd h
  walk-cause (Image Second NoRoom) h = absurd h
  walk-cause (Unaligned tree) h = absurd h
  walk-cause (Unpinned tree mismatch) h = absurd h
  walk-cause (Unlike f) h = absurd h
  walk-cause NoMemory h = absurd h
  walk-cause Write h = absurd h

  pub comparison-cause : (fault : DifferenceFault) → IsComparisonCause w d' e' d'' e'' failed fault → IsDifferenceCause (difference_world d e d'' e'' old new) pair failed fault
  comparison-cause Write h = h
  comparison-cause (Hash tree level number) h = walk-cause (Hash tree level number) h
  comparison-cause (Image tree f) h = walk-cause (Image tree f) h
  comparison-cause (Unaligned tree) h = absurd h
  comparison-cause (Unpinned tree mismatch) h = absurd h
  comparison-cause (Unlike f) h = absurd h
  comparison-cause NoMemory h = absurd h

-- ---- what was read beside the pairs

pub aligned-read : (w w' : Walk) (d0 d d' e e' : Device) (s : ShapeRecord) (t : Trees) → IsFullRead d0 (root_sectors s) d → w.first.shape ≡ s → w.levels ≡ common_levels t → IsAligned (walk_sides w w' d e d' e') → IsFullRead d0 (sectors_before s t) d'
aligned-read w w' d0 d d' e e' s t p shape few h =
    full_read-then (root_sectors s) ((levels s - common_levels t) * (s.hash_block / 512)) (sectors_before s t) p
    (subst (λ (n : ℕ). IsFullRead d ((levels s - n) * (s.hash_block / 512)) d') few (subst (λ (x : ShapeRecord). IsFullRead d ((levels x - w.levels) * (x.hash_block / 512)) d') shape h.first.full)) (omega arith)

pub aligned-read-second : (w w' : Walk) (e0 d d' e e' : Device) (s : ShapeRecord) (t : Trees) → IsFullRead e0 (root_sectors s) e → w.second.shape ≡ s → w.levels ≡ common_levels t → IsAligned (walk_sides w w' d e d' e') → IsFullRead e0 (sectors_before s t) e'
aligned-read-second w w' e0 d d' e e' s t p shape few h =
    full_read-then (root_sectors s) ((levels s - common_levels t) * (s.hash_block / 512)) (sectors_before s t) p
    (subst (λ (n : ℕ). IsFullRead e ((levels s - n) * (s.hash_block / 512)) e') few (subst (λ (x : ShapeRecord). IsFullRead e ((levels x - w.levels) * (x.hash_block / 512)) e') shape h.second.full)) (omega arith)
