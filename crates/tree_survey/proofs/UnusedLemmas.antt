-- Hash blocks read down to the first that isn't good, and what they hold after their last used entries.
use Rattle.std.proofs.Common.{◌≡◌, ◌≤◌, ◌<◌, ◌+◌, ◌-◌, ℕ, zero, suc, Bool, true, false, IsTrue, List, ◌⊎◌, refl, sym, ap, ◌∙◌, subst, arith, inl, inr}
use Rattle.std.proofs.lemmas.Bool.{cases_lt, false≢true}
use Rattle.block_device.specs.Device.{Device}
use Rattle.tree_shape.specs.Digests.{digest}
use Rattle.tree_shape.specs.Shape.{ShapeRecord, ancestor, levels}
use Rattle.tree_path.specs.Path.{PathRecord, LeadsTo, block_of, digest_on, stored_block, stored_digest}
use Rattle.tree_path.specs.Steps.{IsDown, IsStopped, steps}
use Rattle.tree_path.specs.Unused.{is_unused_zero}
use Rattle.tree_path.proofs.lemmas.PathLemmas.{digest_on-stored, leads-down}
use Rattle.tree_survey.specs.Failing.{HasFailedRead}
use Rattle.tree_survey.specs.Hashes.{is_zero_after_used, tree_of_path}
use Rattle.tree_survey.specs.Paths.{IsWayCutOff}
use Rattle.tree_survey.specs.Surveys.{HasDigestAbove, IsWay, Tree}
use Rattle.tree_survey.specs.Unused.{AreZeroFrom, FindsNonzero, FindsZerosAlone, IsNonzeroAt, IsReadDown, IsUnusedFound, IsWayGood, found_from, last_data}

-- ---- one path that was read down from the top

module _ (p q : PathRecord) (d d' : Device) (i good level : ℕ) (between : level ≤ good) (few : good ≤ levels p.shape) (down : IsDown (steps p q d d' i (levels p.shape)) good level) where
  from-top : LeadsTo p i (levels p.shape)
  from-top = record { up = λ l high under. absurd (omega (arith, high, under)) }

  pub way-down : IsWay (tree_of_path p) i good q
  way-down = record { is = down.same; few = few; leads = leads-down p q d d' i (levels p.shape) good level down from-top }

  pub stored-on : IsTrue d.steady → (l : ℕ) → good ≤ l → l < levels p.shape → block_of q l ≡ stored_block p.shape d.image l i
  stored-on steady l high under = down.stored steady l (omega (arith, between, high)) under

  -- the digest that was read is the stored one
  pub digest-above : IsTrue d.steady → (l : ℕ) → level ≤ l → l < levels p.shape → digest_on q i (l + 1) ≡ stored_digest p.shape p.root d.image i (l + 1)
  digest-above steady l high under =
      digest_on-stored q d.image i (l + 1) (omega (arith, under, ap levels down.same.shape_is))
      (λ low. down.stored steady (l + 1) (omega (arith, high)) (omega (arith, low, ap levels down.same.shape_is)) ∙ ap (λ (s : ShapeRecord). stored_block s d.image (l + 1) i) (sym down.same.shape_is))
      ∙ ap (λ (s : ShapeRecord). stored_digest s q.root d.image i (l + 1)) down.same.shape_is
      ∙ ap (λ (x : List ℕ). stored_digest p.shape x d.image i (l + 1)) down.same.root_is

  -- and so is the block's own
  digest-here : IsTrue d.steady → (l : ℕ) → level ≤ l → l < levels p.shape → digest q.salt (block_of q l) ≡ digest p.salt (stored_block p.shape d.image l i)
  digest-here steady l high under = ap (λ (x : List ℕ). digest x (block_of q l)) down.same.salt_is ∙ ap (digest p.salt) (down.stored steady l high under)

  -- a block whose digest is stored above it was read so
  pub was-above : IsTrue d.steady → (l : ℕ) → level ≤ l → l < levels p.shape → HasDigestAbove (tree_of_path p) d.image l i → digest q.salt (block_of q l) ≡ digest_on q i (l + 1)
  was-above steady l high under above = digest-here steady l high under ∙ above ∙ sym (digest-above steady l high under)

pub read-all : (p q : PathRecord) (d d' : Device) (i : ℕ) → IsDown (steps p q d d' i (levels p.shape)) 0 0 → IsReadDown (tree_of_path p) d d' i 0 q
read-all p q d d' i down = record {
  way = way-down p q d d' i 0 0 (omega arith) (omega arith) down;
  stored = stored-on p q d d' i 0 0 (omega arith) (omega arith) down;
  below = λ steady some. absurd (omega (arith, some));
}

pub read-stopped : (p q : PathRecord) (d d' : Device) (i level : ℕ) → IsStopped (steps p q d d' i (levels p.shape)) 0 level → IsReadDown (tree_of_path p) d d' i (level + 1) q
read-stopped p q d d' i level s =
    let low : level < levels p.shape = s.between.1 in
    record {
      way = way-down p q d d' i (level + 1) level (omega arith) (omega (arith, low)) s.down;
      stored = stored-on p q d d' i (level + 1) level (omega arith) (omega (arith, low)) s.down;
      below = λ steady some. inl (λ above.
          let at : level + 1 - 1 ≡ level = omega arith in
          s.bad (was-above p q d d' i (level + 1) level (omega arith) (omega (arith, low)) s.down steady level (omega arith) low
          (subst (λ (l : ℕ). HasDigestAbove (tree_of_path p) d.image l i) at above)));
    }

pub read-cut : (p q : PathRecord) (d d' : Device) (i level : ℕ) → IsWayCutOff (steps p q d d' i (levels p.shape)) level → IsReadDown (tree_of_path p) d d' i (level + 1) q
read-cut p q d d' i level c = record {
  way = way-down p q d c.between i (level + 1) (level + 1) (omega arith) (omega (arith, c.low)) c.down;
  stored = stored-on p q d c.between i (level + 1) (level + 1) (omega arith) (omega (arith, c.low)) c.down;
  below = λ steady some. inr c.failed;
}

-- ---- what is found

module _ (t : Tree) (d d' : Device) (good : ℕ) (q : PathRecord) (r : IsReadDown t d d' (last_data t) good q) where
  -- the unused part of a block that was read is that of the stored block
  unused-stored : IsTrue d.steady → (l : ℕ) → good ≤ l → l < levels t.shape
      → is_unused_zero q.shape l (ancestor q.shape (l + 1) (last_data t)) (block_of q l) ≡ is_zero_after_used t.shape d.image l (last_data t)
  unused-stored steady l high under =
      ap (λ (s : ShapeRecord). is_unused_zero s l (ancestor s (l + 1) (last_data t)) (block_of q l)) r.way.is.shape_is
      ∙ ap (is_unused_zero t.shape l (ancestor t.shape (l + 1) (last_data t))) (r.stored steady l high under)

  -- a good block that was read is beneath its digest
  stands-above : IsTrue d.steady → (m : ℕ) → good ≤ m → m < levels t.shape → HasDigestAbove t d.image m (last_data t)
  stands-above steady m high under =
      let i = last_data t in
      let is = r.way.is in
      let shapes : levels q.shape ≡ levels t.shape = ap levels is.shape_is in
      sym (ap (digest t.salt) (r.stored steady m high under)) ∙ sym (ap (λ (x : List ℕ). digest x (block_of q m)) is.salt_is)
      ∙ r.way.leads.up m high (omega (arith, under, shapes))
      ∙ digest_on-stored q d.image i (m + 1) (omega (arith, under, shapes))
      (λ low. r.stored steady (m + 1) (omega (arith, high)) (omega (arith, low, shapes)) ∙ ap (λ (s : ShapeRecord). stored_block s d.image (m + 1) i) (sym is.shape_is))
      ∙ ap (λ (s : ShapeRecord). stored_digest s q.root d.image i (m + 1)) is.shape_is
      ∙ ap (λ (x : List ℕ). stored_digest t.shape x d.image i (m + 1)) is.root_is

  finds : AreZeroFrom q (last_data t) good false → FindsNonzero t d
  finds (l, (high, (low, nonzero))) =
      let under : l < levels t.shape = omega (arith, low, ap levels r.way.is.shape_is) in
      record {
        seen = record {
          l = l;
          path = q;
          low = under;
          way = record {
            is = r.way.is;
            few = omega (arith, under);
            leads = record { up = λ m over below. r.way.leads.up m (omega (arith, high, over)) below };
          };
          nonzero = subst (λ (s : ShapeRecord). is_unused_zero s l (ancestor s (l + 1) (last_data t)) (block_of q l) ≡ false) r.way.is.shape_is nonzero;
        };
        stored = λ steady. (
          l,
          record {
            low = under;
            stand = λ m over below. stands-above steady m (omega (arith, high, over)) below;
            nonzero = sym (unused-stored steady l high under) ∙ nonzero;
          },
        );
      }

  finds-none : AreZeroFrom q (last_data t) good true → FindsZerosAlone t d d'
  finds-none zeros steady = go (cases_lt 0 good)
    where
      above : (l : ℕ) → good ≤ l → IsNonzeroAt t d.image l → ⊥
      above l high u = false≢true (sym u.nonzero ∙ sym (unused-stored steady l high u.low) ∙ zeros l high (omega (arith, u.low, ap levels r.way.is.shape_is)))

      go : ((0 < good) ⊎ (good ≤ 0)) → ((l : ℕ) → IsNonzeroAt t d.image l → ⊥) ⊎ HasFailedRead d d'
      go (inr none) = inl (λ l u. above l (omega (arith, none)) u)
      go (inl some) = elim (r.below steady some) [
        | inr failed ↦ inr failed
        | inl bad ↦ inl (λ l u. elim (cases_lt l good) [
          | inr high ↦ above l (omega (arith, high)) u
          | inl low ↦ bad (u.stand (good - 1) (omega (arith, low)) (omega (arith, some, r.way.few)))
        ])
      ]

  way-good : good ≡ 0 → AreZeroFrom q (last_data t) good true → IsTrue d.steady → IsWayGood t d.image
  way-good none zeros steady = record {
    stand = λ l low. stands-above steady l (omega (arith, none)) low;
    zeros = λ l low. sym (unused-stored steady l (omega (arith, none)) low) ∙ zeros l (omega (arith, none)) (omega (arith, low, ap levels r.way.is.shape_is));
  }

pub unused-found : (t : Tree) (d d' : Device) (good : ℕ) (q : PathRecord) → IsReadDown t d d' (last_data t) good q → (zeros : Bool) → AreZeroFrom q (last_data t) good zeros → IsUnusedFound t d d' (found_from zeros good)
unused-found t d d' good q r false found = finds t d d' good q r found
unused-found t d d' zero q r true found = way-good t d d' zero q r refl found
unused-found t d d' (suc n) q r true found = finds-none t d d' (suc n) q r found
