-- The path to a block, kept for the next one.
use Rattle.std.proofs.Common.{◌≡◌, ◌≢◌, ◌≤◌, ◌+◌, ◌-◌, ◌*◌, ◌/◌, ℕ, zero, suc, List, ap, sym, ◌∙◌, subst, refl, arith}
use Rattle.block_device.specs.Device.{Device}
use Rattle.tree_shape.specs.Digests.{digest}
use Rattle.tree_shape.specs.Shape.{ShapeRecord, IsShape, ancestor, levels, per_block}
use Rattle.tree_shape.proofs.lemmas.ShapeFactLemmas.{ancestor-more}
use Rattle.tree_path.specs.Path.{PathRecord, LeadsTo, block_of, digest_on, stored_block}
use Rattle.tree_path.specs.Steps.{HasReadAtMost, IsDown, IsKeptAbove, IsStopped, steps}
use Rattle.tree_path.proofs.lemmas.AtMostLemmas.{at_most-fewer}
use Rattle.tree_path.proofs.lemmas.PathLemmas.{digest_on-same, leads-along, leads-down}
use Rattle.tree_survey.specs.Surveys.{Tree, IsWay}
use Rattle.tree_repair.specs.AccessBudgets.{way_sectors}
use Rattle.tree_repair.specs.ParitySearches.{IsCutOff, IsOfTree}

-- nothing was read
pub leads-top : (p : PathRecord) (i k : ℕ) → levels p.shape ≤ k → LeadsTo p i k
leads-top p i k top = record { up = λ l le under. absurd (omega (arith, top, le, under)) }

-- ---- another data block beneath one of its hash blocks

module _ (s : ShapeRecord) (valid : IsShape s) (i j k : ℕ) (same : ancestor s k i ≡ ancestor s k j) where
  ancestors-above : (d m : ℕ) → m ≡ k + d → ancestor s m i ≡ ancestor s m j
  ancestors-above zero m at = let e : k ≡ m = omega (arith, at) in subst (λ (n : ℕ). ancestor s n i ≡ ancestor s n j) e same
  ancestors-above (suc d) m at =
      let e : k + d + 1 ≡ m = omega (arith, at) in
      subst (λ (n : ℕ). ancestor s n i ≡ ancestor s n j) e
      (ancestor-more s valid (k + d) i ∙ ap (λ (n : ℕ). n / per_block s) (ancestors-above d (k + d) refl) ∙ sym (ancestor-more s valid (k + d) j))

pub leads-shared : (p : PathRecord) (i j k : ℕ) → IsShape p.shape → ancestor p.shape (k + 1) i ≡ ancestor p.shape (k + 1) j → LeadsTo p i k → LeadsTo p j k
leads-shared p i j k valid same leads = leads-along p i j k (λ m high. ancestors-above p.shape valid i j (k + 1) same (m - (k + 1)) m (omega (arith, high))) leads

-- ---- what was read from a level down

module _ {p q : PathRecord} {d d' : Device} {i from : ℕ} (t : Tree) (of_tree : IsOfTree t p) (leads : LeadsTo p i from) where
  pub tree-down : {good level : ℕ} → IsDown (steps p q d d' i from) good level → IsOfTree t q
  tree-down down = record {
    shape_is = down.same.shape_is ∙ of_tree.shape_is;
    salt_is = down.same.salt_is ∙ of_tree.salt_is;
    root_is = down.same.root_is ∙ of_tree.root_is;
  }

  pub way-down : {good level : ℕ} → good ≤ levels t.shape → IsDown (steps p q d d' i from) good level → IsWay t i good q
  way-down {good} {level} few down = record { is = tree-down down; few = few; leads = leads-down p q d d' i from good level down leads }

  -- not down to its end
  pub cut-off : {h level : ℕ} → from ≤ levels t.shape → IsStopped (steps p q d d' i from) h level → IsCutOff t i h d
  cut-off {h} {level} few stopped =
      let down = stopped.down in
      let way : IsWay t i (level + 1) q = way-down (omega (arith, stopped.between.1, few)) down in
      record {
        l = level;
        above = stopped.between.0;
        p = q;
        way = way;
        block = block_of q level;
        bad = subst (λ (salt : List ℕ). digest salt (block_of q level) ≢ digest_on q i (level + 1)) way.is.salt_is stopped.bad;
        stand = λ steady. subst (λ (s : ShapeRecord). block_of q level ≡ stored_block s d.image level i) of_tree.shape_is (down.stored steady level (omega arith) stopped.between.1);
      }

  -- a read failed
  pub tree-kept : IsKeptAbove (steps p q d d' i from) → IsOfTree t q
  tree-kept above = record {
    shape_is = above.same.shape_is ∙ of_tree.shape_is;
    salt_is = above.same.salt_is ∙ of_tree.salt_is;
    root_is = above.same.root_is ∙ of_tree.root_is;
  }

  pub leads-kept : IsKeptAbove (steps p q d d' i from) → LeadsTo q i from
  leads-kept above = record {
    up = λ l le under.
        ap (λ (s : List ℕ). digest s (block_of q l)) above.same.salt_is ∙ ap (digest p.salt) (above.kept l le)
        ∙ leads.up l le (omega (arith, under, ap levels above.same.shape_is))
        ∙ sym (digest_on-same q p i (l + 1) above.same.shape_is above.same.root_is (above.kept (l + 1) (omega (arith, le))));
  }

-- no more is read than the whole path has
pub way-within : (t : Tree) {p : PathRecord} (d d' : Device) (from h : ℕ) → IsOfTree t p → from ≤ levels t.shape → HasReadAtMost d ((from - h) * (p.shape.hash_block / 512)) d' → HasReadAtMost d (way_sectors t.shape h) d'
way-within t {p} d d' from h of_tree few asked =
    let here : HasReadAtMost d ((from - h) * (t.shape.hash_block / 512)) d' = subst (λ (s : ShapeRecord). HasReadAtMost d ((from - h) * (s.hash_block / 512)) d') of_tree.shape_is asked in
    at_most-fewer d d' (t.shape.hash_block / 512) (from - h) (levels t.shape - h) (omega (arith, few)) here
