-- The ways down two trees, one step after another.
use Rattle.std.proofs.Common.{◌≡◌, ◌≢◌, ◌<◌, ◌+◌, ℕ, IsTrue, List, refl, sym, ap, ◌∙◌, subst, arith, inl, inr}
use Rattle.std.proofs.lemmas.Bool.{cases_lt}
use Rattle.block_device.specs.Device.{Device}
use Rattle.tree_shape.specs.Shape.{ShapeRecord, levels, ancestor}
use Rattle.verity_format.specs.declared.verifying.VerifyFault.TheVariants.{Super, TooSmall, Device as DeviceFailed, NoMemory as NoRoom}
use Rattle.verity_format.specs.Blocks.{IsOnlyRead}
use Rattle.verity_format.specs.Image.{tree_sectors}
use Rattle.tree_path.specs.Path.{PathRecord, IsPathOf, LeadsTo, AreStored, digest_on}
use Rattle.tree_path.specs.Steps.{IsStopped, steps}
use Rattle.verity_format.proofs.lemmas.DeviceLemmas.{failed-then, steady-then}
use Rattle.tree_path.proofs.lemmas.PathLemmas.{digests-down, leads-down, stored-down}
use Rattle.tree_difference.specs.declared.fault.DifferenceFault.{DifferenceFault}
use Rattle.tree_difference.specs.declared.fault.DifferenceFault.TheVariants.{Image, Unaligned, Unpinned, Unlike, Hash, NoMemory, Write}
use Rattle.tree_difference.specs.declared.fault.Which.TheVariants.{First, Second}
use Rattle.tree_difference.specs.declared.walk.Walk.{Walk}
use Rattle.tree_difference.specs.Causes.{IsBadBlock, IsWayCause, IsWalkCause}
use Rattle.tree_difference.specs.Walks.{AreSameTrees, CanEnter, HasEntered, HaveBlock, IsOn, WalkSides, walk_sides}

pub path-none : (p : PathRecord) → IsPathOf p.shape p.salt p.root p
path-none p = record { shape_is = refl; salt_is = refl; root_is = refl }

pub path-then : (p q r : PathRecord) → IsPathOf p.shape p.salt p.root q → IsPathOf q.shape q.salt q.root r → IsPathOf p.shape p.salt p.root r
path-then p q r a b = record { shape_is = b.shape_is ∙ a.shape_is; salt_is = b.salt_is ∙ a.salt_is; root_is = b.root_is ∙ a.root_is }

pub trees-none : (w : Walk) → AreSameTrees w w
trees-none w = record { first = path-none w.first; second = path-none w.second; shape = refl; levels = refl; blocks = refl }

pub trees-then : (a b c : Walk) → AreSameTrees a b → AreSameTrees b c → AreSameTrees a c
trees-then a b c p q = record {
  first = path-then a.first b.first c.first p.first q.first;
  second = path-then a.second b.second c.second p.second q.second;
  shape = q.shape ∙ p.shape;
  levels = q.levels ∙ p.levels;
  blocks = q.blocks ∙ p.blocks;
}

pub trees-entered : (s : WalkSides) (i level : ℕ) → HasEntered s i level → AreSameTrees s.old s.new
trees-entered s i level h = record { first = h.first.same; second = h.second.same; shape = h.shape; levels = h.levels; blocks = h.blocks }

pub have-then : (w w' : Walk) (d e d' e' : Device) (i : ℕ) → AreSameTrees w w' → d'.size ≡ d.size → e'.size ≡ e.size → HaveBlock w d e i → HaveBlock w' d' e' i
have-then w w' d e d' e' i t ds es h = record {
  first_levels = omega (arith, h.first_levels, t.levels, ap levels t.first.shape_is);
  second_levels = omega (arith, h.second_levels, t.levels, ap levels t.second.shape_is);
  first_block = omega (arith, h.first_block, ap (λ (s : ShapeRecord). s.blocks) t.first.shape_is);
  second_block = omega (arith, h.second_block, ap (λ (s : ShapeRecord). s.blocks) t.second.shape_is);
  first_fits = omega (arith, h.first_fits, ds, ap tree_sectors t.first.shape_is);
  second_fits = omega (arith, h.second_fits, es, ap tree_sectors t.second.shape_is);
}

-- reads change neither side of a walk at a block
pub on-read : (w : Walk) (d e d' e' : Device) (i k : ℕ) → IsOnlyRead d d' → IsOnlyRead e e' → IsOn w d e i k → IsOn w d' e' i k
on-read w d e d' e' i k p q on = record {
  first_leads = on.first_leads;
  second_leads = on.second_leads;
  first_stored = λ steady. let was : IsTrue d.steady = subst IsTrue p.same.steady steady in subst (λ (im : List (List ℕ)). AreStored w.first im i k) (sym (p.image was)) (on.first_stored was);
  second_stored = λ steady. let was : IsTrue e.steady = subst IsTrue q.same.steady steady in subst (λ (im : List (List ℕ)). AreStored w.second im i k) (sym (q.image was)) (on.second_stored was);
  differ = on.differ;
}

-- back to what they were before
pub on-was : (w : Walk) (d e d' e' : Device) (i k : ℕ) → IsOnlyRead d d' → IsOnlyRead e e' → IsOn w d' e' i k → IsOn w d e i k
on-was w d e d' e' i k p q on = record {
  first_leads = on.first_leads;
  second_leads = on.second_leads;
  first_stored = λ steady. subst (λ (im : List (List ℕ)). AreStored w.first im i k) (p.image steady) (on.first_stored (steady-then p.same steady));
  second_stored = λ steady. subst (λ (im : List (List ℕ)). AreStored w.second im i k) (q.image steady) (on.second_stored (steady-then q.same steady));
  differ = on.differ;
}

-- one level further down, where the digests differ
pub on-entered : (w w' : Walk) (d e d' e' : Device) (i level : ℕ) → IsOn w d e i (level + 1) → digest_on w.first i (level + 1) ≢ digest_on w.second i (level + 1) → HasEntered (walk_sides w w' d e d' e') i level → IsOn w' d e i level
on-entered w w' d e d' e' i level on apart h = record {
  first_leads = leads-down w.first w'.first d d' i (level + 1) level level h.first on.first_leads;
  second_leads = leads-down w.second w'.second e e' i (level + 1) level level h.second on.second_leads;
  first_stored = λ steady. stored-down w.first w'.first d d' i (level + 1) level level h.first steady (on.first_stored steady);
  second_stored = λ steady. stored-down w.second w'.second e e' i (level + 1) level level h.second steady (on.second_stored steady);
  differ = λ m low most.
      let one : digest_on w'.first i m ≡ digest_on w.first i m = digests-down w.first w'.first d d' i (level + 1) level level h.first m (omega (arith, low)) in
      let two : digest_on w'.second i m ≡ digest_on w.second i m = digests-down w.second w'.second e e' i (level + 1) level level h.second m (omega (arith, low)) in
      λ same. elim (cases_lt (level + 1) m) [
        | inl high ↦ on.differ m high (omega (arith, most, h.levels)) (sym one ∙ same ∙ two)
        | inr not ↦
            let at : m ≡ level + 1 = omega (arith, low, not) in
            apart (ap (digest_on w.first i) (sym at) ∙ sym one ∙ same ∙ two ∙ ap (digest_on w.second i) at)
      ];
}

-- a hash block that isn't good
pub bad-block : (p q : PathRecord) (d d' : Device) (i level at number : ℕ) → IsStopped (steps p q d d' i (level + 1)) level at → LeadsTo p i (level + 1) → (IsTrue d.steady → AreStored p d.image i (level + 1)) → i < p.shape.blocks → level < levels p.shape
    → number ≡ ancestor p.shape (at + 1) i → IsBadBlock p.shape p.salt p.root d at number
bad-block p q d d' i level at number stop leads stored inside low is =
    let here : at ≡ level = omega (arith, stop.between.0, stop.between.1) in
    record {
      path = q;
      index = i;
      is_of = stop.down.same;
      inside = inside;
      low = omega (arith, here, low);
      number_is = is;
      leads = leads-down p q d d' i (level + 1) (at + 1) at stop.down leads;
      bad = stop.bad;
      stored = λ steady. stored-down p q d d' i (level + 1) (at + 1) at stop.down steady (stored steady);
    }

pub bad-same : (p q : PathRecord) (d d' : Device) (level number : ℕ) → IsPathOf p.shape p.salt p.root q → IsOnlyRead d d' → IsBadBlock q.shape q.salt q.root d' level number → IsBadBlock p.shape p.salt p.root d level number
bad-same p q d d' level number is read b = record {
  path = b.path;
  index = b.index;
  is_of = record { shape_is = b.is_of.shape_is ∙ is.shape_is; salt_is = b.is_of.salt_is ∙ is.salt_is; root_is = b.is_of.root_is ∙ is.root_is };
  inside = omega (arith, b.inside, ap (λ (s : ShapeRecord). s.blocks) is.shape_is);
  low = omega (arith, b.low, ap levels is.shape_is);
  number_is = b.number_is ∙ ap (λ (s : ShapeRecord). ancestor s (level + 1) b.index) is.shape_is;
  leads = b.leads;
  bad = b.bad;
  stored = λ steady. subst (λ (im : List (List ℕ)). AreStored b.path im b.index level) (read.image steady) (b.stored (steady-then read.same steady));
}

-- a cause stays one after calls that did not fail
pub cause-then : (w w' : Walk) (d e dm em d' e' : Device) (fault : DifferenceFault) → AreSameTrees w w' → IsOnlyRead d dm → IsOnlyRead e em → dm.failures ≡ d.failures → em.failures ≡ e.failures → IsWalkCause w' dm em d' e' fault → IsWalkCause w d e d' e' fault
cause-then w w' d e dm em d' e' (Hash First level number) t p q df ef h = bad-same w.first w'.first d dm level number t.first p h
cause-then w w' d e dm em d' e' (Hash Second level number) t p q df ef h = bad-same w.second w'.second e em level number t.second q h
cause-then w w' d e dm em d' e' (Image First DeviceFailed) t p q df ef h = failed-then d dm d' df h
cause-then w w' d e dm em d' e' (Image Second DeviceFailed) t p q df ef h = failed-then e em e' ef h
cause-then w w' d e dm em d' e' (Image First (Super f)) t p q df ef h = absurd h
cause-then w w' d e dm em d' e' (Image First TooSmall) t p q df ef h = absurd h
cause-then w w' d e dm em d' e' (Image First NoRoom) t p q df ef h = absurd h
cause-then w w' d e dm em d' e' (Image Second (Super f)) t p q df ef h = absurd h
cause-then w w' d e dm em d' e' (Image Second TooSmall) t p q df ef h = absurd h
cause-then w w' d e dm em d' e' (Image Second NoRoom) t p q df ef h = absurd h
cause-then w w' d e dm em d' e' (Unaligned tree) t p q df ef h = absurd h
cause-then w w' d e dm em d' e' (Unpinned tree mismatch) t p q df ef h = absurd h
cause-then w w' d e dm em d' e' (Unlike f) t p q df ef h = absurd h
cause-then w w' d e dm em d' e' NoMemory t p q df ef h = absurd h
cause-then w w' d e dm em d' e' Write t p q df ef h = absurd h

-- a fault of one of the two that are read in turn
pub entering-first : (w : Walk) (q : PathRecord) (d e d' : Device) (i level : ℕ) (fault : DifferenceFault) → CanEnter w d e i level → IsWayCause (steps w.first q d d' i (level + 1)) First level fault → IsWalkCause w d e d' e fault
entering-first w q d e d' i level (Hash First at number) can h = bad-block w.first q d d' i level at number h.1 can.on.first_leads can.on.first_stored can.have.first_block (omega (arith, can.low, can.have.first_levels)) h.2
entering-first w q d e d' i level (Hash Second at number) can h = let clash : Second ≡ First = h.0 in absurd (cc)
entering-first w q d e d' i level (Image First DeviceFailed) can h = h.1
entering-first w q d e d' i level (Image Second DeviceFailed) can h = let clash : Second ≡ First = h.0 in absurd (cc)
entering-first w q d e d' i level (Image First (Super f)) can h = absurd h
entering-first w q d e d' i level (Image First TooSmall) can h = absurd h
entering-first w q d e d' i level (Image First NoRoom) can h = absurd h
entering-first w q d e d' i level (Image Second (Super f)) can h = absurd h
entering-first w q d e d' i level (Image Second TooSmall) can h = absurd h
entering-first w q d e d' i level (Image Second NoRoom) can h = absurd h
entering-first w q d e d' i level (Unaligned tree) can h = absurd h
entering-first w q d e d' i level (Unpinned tree mismatch) can h = absurd h
entering-first w q d e d' i level (Unlike f) can h = absurd h
entering-first w q d e d' i level NoMemory can h = absurd h
entering-first w q d e d' i level Write can h = absurd h

pub entering-second : (w : Walk) (q : PathRecord) (d e d' e' : Device) (i level : ℕ) (fault : DifferenceFault) → CanEnter w d e i level → IsWayCause (steps w.second q e e' i (level + 1)) Second level fault → IsWalkCause w d e d' e' fault
entering-second w q d e d' e' i level (Hash Second at number) can h = bad-block w.second q e e' i level at number h.1 can.on.second_leads can.on.second_stored can.have.second_block (omega (arith, can.low, can.have.second_levels)) h.2
entering-second w q d e d' e' i level (Hash First at number) can h = let clash : First ≡ Second = h.0 in absurd (cc)
entering-second w q d e d' e' i level (Image Second DeviceFailed) can h = h.1
entering-second w q d e d' e' i level (Image First DeviceFailed) can h = let clash : First ≡ Second = h.0 in absurd (cc)
entering-second w q d e d' e' i level (Image First (Super f)) can h = absurd h
entering-second w q d e d' e' i level (Image First TooSmall) can h = absurd h
entering-second w q d e d' e' i level (Image First NoRoom) can h = absurd h
entering-second w q d e d' e' i level (Image Second (Super f)) can h = absurd h
entering-second w q d e d' e' i level (Image Second TooSmall) can h = absurd h
entering-second w q d e d' e' i level (Image Second NoRoom) can h = absurd h
entering-second w q d e d' e' i level (Unaligned tree) can h = absurd h
entering-second w q d e d' e' i level (Unpinned tree mismatch) can h = absurd h
entering-second w q d e d' e' i level (Unlike f) can h = absurd h
entering-second w q d e d' e' i level NoMemory can h = absurd h
entering-second w q d e d' e' i level Write can h = absurd h
