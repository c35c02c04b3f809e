-- What is lost after the last pass is beyond parity.
use Rattle.std.proofs.Common.{◌≡◌, ◌≤◌, ◌<◌, ℕ, Bool, true, false, List, [], ◌∷◌, ◌++◌, refl, sym, subst, arith, inl, inr}
use Rattle.std.specs.Prelude.{◌⊎◌}
use Rattle.std.specs.List.{flat_map}
use Rattle.block_device.specs.Device.{Device}
use Rattle.fec_area.specs.declared.layout.Layout.{Layout}
use Rattle.fec_area.specs.declared.restoring.RestoreFault.TheVariants.{TooManyLost, TooSmall, Device as DeviceFailed, NoMemory}
use Rattle.tree_shape.specs.Shape.{ShapeRecord, IsShape, ancestor, levels}
use Rattle.tree_path.specs.Path.{PathRecord}
use Rattle.tree_repair.specs.declared.bad.BadBlock.{BadBlock}
use Rattle.tree_repair.specs.declared.mending.Mended.{Mended}
use Rattle.tree_repair.specs.declared.mending.Mended.TheVariants as mended
use Rattle.tree_repair.specs.Beyond.{HaveCountedNone, IsHad, IsHadIn, IsOutcome, IsRoundBeyond, IsSettled, IsSoughtIn, WhatStaysLostIsBeyondParity}
use Rattle.tree_repair.specs.Coverage.{IsLookedAt, IsPassedBy, IsVisitAt, IsVisitedIn}
use Rattle.tree_repair.specs.Parity.{IsCoveredAt, IsPlace}
use Rattle.tree_repair.specs.Passes.{IsPass, bad_of}
use Rattle.tree_repair.specs.Repairs.{job_of}
use Rattle.tree_repair.specs.Runs.{Job, Visit, VisitsAll, visit}
use Rattle.tree_repair.specs.ParitySearches.{AreSought, IsBlockUnmade, IsSought, IsSoughtAt, IsTriedBehind, IsUncovered, IsVain, Trial, trial}
use Rattle.tree_repair.specs.Worlds.{HasCountedNone, IsParityRead, IsWorldRead, RepairWorld}
use Rattle.tree_repair.proofs.ExcuseLemmas.{counted-left, passed-for, runs-own}
use Rattle.tree_repair.proofs.KeepLemmas.{runs-before}
use Rattle.tree_repair.proofs.RunLemmas.{parity-none, parity-then, runs-one, runs-read, runs-then, world-none, world-then}
use Rattle.tree_repair.proofs.UnfailedLemmas.{AreCounting, counting-read, counting-runs, none-failed, none-left, none-right, unfailed}

-- ---- a block that is sought

-- why the block isn't reconstructed
unmade-beyond : (j : Job) (p : PathRecord) (h i : ℕ) (t : Trial) (k : ℕ) → AreCounting t.w t.w' t.parity_dev t.parity_dev' → HaveCountedNone t.w t.w' t.parity_dev t.parity_dev' → IsBlockUnmade t k → IsRoundBeyond j p h i t k
unmade-beyond j p h i t k more sure (TooManyLost count, (of, (is, many, unasked))) = inl (rw (sym is) many)
unmade-beyond j p h i t k more sure (TooSmall needed, (of, (is, small, unasked))) = inr (inl (rw (sym is) small))
unmade-beyond j p h i t k more sure (DeviceFailed, (of, failed)) = absurd (none-failed t.w t.w' t.parity_dev t.parity_dev' more sure failed)
unmade-beyond j p h i t k more sure (NoMemory, (of, unasked)) = absurd of

vain-beyond : (j : Job) (p : PathRecord) (h i : ℕ) (t : Trial) → AreCounting t.w t.w' t.parity_dev t.parity_dev' → HaveCountedNone t.w t.w' t.parity_dev t.parity_dev' → IsVain j p h i t → IsUncovered j.tree.shape t.layout h i ⊎ ((k : ℕ) × (IsCoveredAt j.tree.shape t.layout h i k × IsRoundBeyond j p h i t k))
vain-beyond j p h i t more sure (inl off) = inl off
vain-beyond j p h i t more sure (inr (k, (at, inl unmade))) = inr (k, (at, unmade-beyond j p h i t k more sure unmade))
vain-beyond j p h i t more sure (inr (k, (at, inr other))) = inr (k, (at, inr (inr other)))

-- what was read after it changes nothing of that
beyond-read : (j : Job) (p : PathRecord) (h i : ℕ) (t : Trial) (m : RepairWorld) (q : Device)
    → IsUncovered j.tree.shape t.layout h i ⊎ ((k : ℕ) × (IsCoveredAt j.tree.shape t.layout h i k × IsRoundBeyond j p h i (trial t.layout t.lost t.w m t.parity_dev q) k))
    → IsUncovered j.tree.shape t.layout h i ⊎ ((k : ℕ) × (IsCoveredAt j.tree.shape t.layout h i k × IsRoundBeyond j p h i t k))
beyond-read j p h i t m q (inl off) = inl off
beyond-read j p h i t m q (inr (k, (at, inl many))) = inr (k, (at, inl many))
beyond-read j p h i t m q (inr (k, (at, inr (inl small)))) = inr (k, (at, inr (inl small)))
beyond-read j p h i t m q (inr (k, (at, inr (inr made)))) = inr (k, (at, inr (inr (record { bytes = made.bytes; other = made.other; made = made.made }))))

-- how a trial ends, after a reading
pub record IsEnded (j : Job) (h i : ℕ) (t : Trial) : Type 0 where
  pub a : RepairWorld
  pub read : IsWorldRead t.w a
  pub outcome : IsOutcome j h i (trial t.layout t.lost a t.w' t.parity_dev t.parity_dev')

tried-ended : (j : Job) (h i : ℕ) (t : Trial) (back : Bool) → HaveCountedNone t.w t.w' t.parity_dev t.parity_dev' → IsTriedBehind j h i t back → IsEnded j h i t
tried-ended j h i t true sure behind = record { a = behind.between; read = behind.read; outcome = inl behind.tried.0 }
tried-ended j h i t false sure behind =
    elim behind.tried.1 [
      | inl along ↦ record {
        a = behind.between;
        read = behind.read;
        outcome = inr (inr (inr (record {
          p = along.p;
          way = along.way;
          vain =
              let v = along.vain in
              beyond-read j along.p h i (trial t.layout t.lost behind.between t.w' t.parity_dev t.parity_dev') v.between v.parity_between
              (vain-beyond j along.p h i (trial t.layout t.lost behind.between v.between t.parity_dev v.parity_between) (counting-read behind.between v.between t.parity_dev v.parity_between v.first.image v.first.parity)
              (none-left behind.between v.between t.w' t.parity_dev v.parity_between t.parity_dev' (counting-read v.between t.w' v.parity_between t.parity_dev' v.rest.image v.rest.parity)
              (none-right t.w behind.between t.w' t.parity_dev t.parity_dev t.parity_dev' (counting-read t.w behind.between t.parity_dev t.parity_dev behind.read (parity-none t.parity_dev)) sure)) v.vain);
        })));
      }
      | inr good ↦ record { a = behind.between; read = behind.read; outcome = inr (inl good) }
    ]

sought-ended : (j : Job) (h i : ℕ) (t : Trial) (back : Bool) → HaveCountedNone t.w t.w' t.parity_dev t.parity_dev' → IsPlace j.tree.shape h i → IsSoughtAt j h i t false back → IsEnded j h i t
sought-ended j h i t back sure place (inl (not, (left, inl off))) = absurd (off place)
sought-ended j h i t back sure place (inl (not, (left, inr (inl failed)))) = absurd (unfailed t.w.hash_dev t.w'.hash_dev (inl (omega (arith, left.image.hash_more))) sure.hash_none failed.0)
sought-ended j h i t back sure place (inl (not, (left, inr (inr cut)))) = record { a = t.w; read = world-none t.w; outcome = inr (inr (inl cut)) }
sought-ended j h i t back sure place (inr behind) = tried-ended j h i t back sure behind

-- ---- one after another

-- what is visited where a block is sought
tried-visits : (j : Job) (h i : ℕ) (t : Trial) (back : Bool) → IsTriedBehind j h i t back → (us : List Visit) × VisitsAll j us t.w t.w'
tried-visits j h i t true behind =
    let brought = behind.tried.0 in
    let v : Visit = visit h i mended.Parity brought.bytes true in
    (v ∷ [], runs-read j (v ∷ []) t.w behind.between t.w' behind.read (runs-read j (v ∷ []) behind.between brought.between t.w' brought.read (runs-before j (v ∷ []) brought.between brought.behind t.w' (runs-one j v brought.between brought.behind brought.visited) brought.read_back)))
tried-visits j h i t false behind = ([], world-then t.w behind.between t.w' behind.read behind.tried.0.image)

tried-parity : (j : Job) (h i : ℕ) (t : Trial) (back : Bool) → IsTriedBehind j h i t back → IsParityRead t.parity_dev t.parity_dev'
tried-parity j h i t true behind = behind.tried.1
tried-parity j h i t false behind = behind.tried.0.parity

pub sought-visits : (j : Job) (h i : ℕ) (t : Trial) (found back : Bool) → IsSoughtAt j h i t found back → (us : List Visit) × VisitsAll j us t.w t.w'
sought-visits j h i t true back (not, left) = ([], left.image)
sought-visits j h i t false back (inl (not, (left, reach))) = ([], left.image)
sought-visits j h i t false back (inr behind) = tried-visits j h i t back behind

pub sought-parity : (j : Job) (h i : ℕ) (t : Trial) (found back : Bool) → IsSoughtAt j h i t found back → IsParityRead t.parity_dev t.parity_dev'
sought-parity j h i t true back (not, left) = left.parity
sought-parity j h i t false back (inl (not, (left, reach))) = left.parity
sought-parity j h i t false back (inr behind) = tried-parity j h i t back behind

pub all-visits : (j : Job) (l : Layout) (lost : List ℕ) (bs : List BadBlock) (w w' : RepairWorld) (p p' : Device) (hash_came : Bool) → AreSought j l lost bs w w' p p' hash_came → (us : List Visit) × VisitsAll j us w w'
all-visits j l lost [] w w' p p' hash_came (same, none) = ([], subst (IsWorldRead w) (sym same) (world-none w))
all-visits j l lost (b ∷ more) w w' p p' hash_came (a, (q, (back, (rest, (is, (here, are)))))) =
    let first = sought-visits j b.place.height b.place.index (trial l lost w a p q) b.found back here in
    let later = all-visits j l lost more a w' q p' rest are in
    (first.0 ++ later.0, runs-then j first.0 later.0 w a w' first.1 later.1)

pub all-parity : (j : Job) (l : Layout) (lost : List ℕ) (bs : List BadBlock) (w w' : RepairWorld) (p p' : Device) (hash_came : Bool) → AreSought j l lost bs w w' p p' hash_came → IsParityRead p p'
all-parity j l lost [] w w' p p' hash_came (same, none) = subst (IsParityRead p) (sym none.0) (parity-none p)
all-parity j l lost (b ∷ more) w w' p p' hash_came (a, (q, (back, (rest, (is, (here, are)))))) =
    parity-then (sought-parity j b.place.height b.place.index (trial l lost w a p q) b.found back here) (all-parity j l lost more a w' q p' rest are)

-- ---- the lost ones

-- a block that was noted, and found nowhere
pub record IsNotedAt (s : ShapeRecord) (h i : ℕ) (b : BadBlock) : Type 0 where
  pub lost : b.found ≡ false
  pub inside : b.place.index < s.blocks
  pub height_is : b.place.height ≡ h
  pub same : ancestor s h b.place.index ≡ ancestor s h i

abbrev pub IsLostIn : ShapeRecord → ℕ → ℕ → List BadBlock → Type 0
IsLostIn s h i [] = ⊥
IsLostIn s h i (b ∷ more) = IsNotedAt s h i b ⊎ IsLostIn s h i more

lost-right : (s : ShapeRecord) (h i : ℕ) (bs cs : List BadBlock) → IsLostIn s h i cs → IsLostIn s h i (bs ++ cs)
lost-right s h i [] cs at = at
lost-right s h i (b ∷ more) cs at = inr (lost-right s h i more cs at)

-- a visit had its block, or it is noted
had-or : (j : Job) (h i : ℕ) (height index : ℕ) (m : Mended) (bytes : List ℕ) (done : Bool) (more : List BadBlock) → index < j.tree.shape.blocks → IsVisitAt j.tree.shape h i (visit height index m bytes done)
    → IsHad m ⊎ IsLostIn j.tree.shape h i (bad_of j (visit height index m bytes done) ++ more)
had-or j h i height index mended.Good bytes done more inside at = inl tt
had-or j h i height index (mended.Copy k) bytes done more inside at = inl tt
had-or j h i height index mended.Remade bytes done more inside at = inl tt
had-or j h i height index mended.Parity bytes done more inside at = inl tt
had-or j h i height index mended.Lost bytes done more inside at = inr (inl (record { lost = refl; inside = inside; height_is = at.height_is; same = at.same }))

visited-or : (j : Job) (h i : ℕ) (vs : List Visit) (w w' : RepairWorld) → VisitsAll j vs w w' → IsVisitedIn j.tree.shape h i vs → IsHadIn j.tree.shape h i vs ⊎ IsLostIn j.tree.shape h i (flat_map (bad_of j) vs)
visited-or j h i [] w w' runs at = absurd at
visited-or j h i (v ∷ more) w w' (a, (b, (read, (here, rest)))) (inl at) =
    elim (had-or j h i v.height v.index v.mended v.bytes v.done (flat_map (bad_of j) more) here.inside at) [
      | inl had ↦ inl (inl (at, had))
      | inr lost ↦ inr lost
    ]
visited-or j h i (v ∷ more) w w' (a, (b, (read, (here, rest)))) (inr there) =
    elim (visited-or j h i more b w' rest there) [
      | inl had ↦ inl (inr had)
      | inr lost ↦ inr (lost-right j.tree.shape h i (bad_of j v) (flat_map (bad_of j) more) lost)
    ]

-- one of those that were sought
here-sought : (j : Job) (l : Layout) (lost : List ℕ) (h i : ℕ) (b : BadBlock) (w a w' : RepairWorld) (p q : Device) (back : Bool) (later : List Visit) → IsShape j.tree.shape → h ≤ levels j.tree.shape → HaveCountedNone w a p q
    → IsNotedAt j.tree.shape h i b → IsSought j b (trial l lost w a p q) back → VisitsAll j later a w' → IsSoughtIn j l lost h i w w' p
here-sought j l lost h i b w a w' p q back later valid high sure at here behind =
    let at_height : IsSoughtAt j h b.place.index (trial l lost w a p q) b.found back = subst (λ (n : ℕ). IsSoughtAt j n b.place.index (trial l lost w a p q) b.found back) at.height_is here in
    let ended = sought-ended j h b.place.index (trial l lost w a p q) back sure (record { valid = valid; inside = at.inside; high = high })
    (subst (λ (found : Bool). IsSoughtAt j h b.place.index (trial l lost w a p q) found back) at.lost at_height) in
    record {
      beside = b.place.index;
      same = at.same;
      a = ended.a;
      b = a;
      q = p;
      q' = q;
      part = record { earlier = []; later = later; before = ended.read; behind = behind };
      parity_read = parity-none p;
      outcome = ended.outcome;
    }

-- a block that was sought after other visits
later-sought : (j : Job) (l : Layout) (lost : List ℕ) (h i : ℕ) (vs : List Visit) (w a w' : RepairWorld) (p q : Device) → VisitsAll j vs w a → IsParityRead p q → IsSoughtIn j l lost h i a w' q → IsSoughtIn j l lost h i w w' p
later-sought j l lost h i vs w a w' p q before read x = record {
  beside = x.beside;
  same = x.same;
  a = x.a;
  b = x.b;
  q = x.q;
  q' = x.q';
  part = record { earlier = vs ++ x.part.earlier; later = x.part.later; before = runs-then j vs x.part.earlier w a x.a before x.part.before; behind = x.part.behind };
  parity_read = parity-then read x.parity_read;
  outcome = x.outcome;
}

lost-sought : (j : Job) (l : Layout) (lost : List ℕ) (h i : ℕ) (bs : List BadBlock) (w w' : RepairWorld) (p p' : Device) (hash_came : Bool) → IsShape j.tree.shape → h ≤ levels j.tree.shape → HaveCountedNone w w' p p'
    → AreSought j l lost bs w w' p p' hash_came → IsLostIn j.tree.shape h i bs → IsSoughtIn j l lost h i w w' p
lost-sought j l lost h i [] w w' p p' hash_came valid high sure are at = absurd at
lost-sought j l lost h i (b ∷ more) w w' p p' hash_came valid high sure (a, (q, (back, (rest, (is, (here, are)))))) (inl at) =
    let later = all-visits j l lost more a w' q p' rest are in
    let counting = counting-runs j later.0 a w' q p' later.1 (all-parity j l lost more a w' q p' rest are) in
    here-sought j l lost h i b w a w' p q back later.0 valid high (none-left w a w' p q p' counting sure) at here later.1
lost-sought j l lost h i (b ∷ more) w w' p p' hash_came valid high sure (a, (q, (back, (rest, (is, (here, are)))))) (inr there) =
    let first = sought-visits j b.place.height b.place.index (trial l lost w a p q) b.found back here in
    let read = sought-parity j b.place.height b.place.index (trial l lost w a p q) b.found back here in
    later-sought j l lost h i first.0 w a w' p q first.1 read (lost-sought j l lost h i more a w' q p' rest valid high (none-right w a w' p q p' (counting-runs j first.0 w a p q first.1 read) sure) are there)

-- ---- a pass

settled-by : (j : Job) (l : Layout) (lost : List ℕ) (h i : ℕ) (vs us : List Visit) (w x w' : RepairWorld) (p : Device) → HasCountedNone w.hash_dev w'.hash_dev → VisitsAll j us x w' → IsPassedBy j h i vs w x → IsSettled j l lost vs h i w w' p
settled-by j l lost h i vs us w x w' p sure behind by =
    inr (inl (record {
      beside = by.beside;
      same = by.same;
      a = by.a;
      b = by.b;
      part = record { earlier = by.earlier; later = by.later ++ us; before = by.before; behind = runs-then j by.later us by.b x w' by.behind behind };
      read = by.read;
      cut = passed-for j h i vs w x by (counted-left w.hash_dev x.hash_dev w'.hash_dev (runs-own j 1 us x w' behind) sure);
    }))

settled-at : (j : Job) (l : Layout) (h i : ℕ) (w w' : RepairWorld) (p p' : Device) (again : Bool) (pass : IsPass j l w w' p p' again) → IsShape j.tree.shape → HaveCountedNone w w' p p' → h ≤ levels j.tree.shape
    → IsLookedAt j h i pass.visits w pass.behind → IsSettled j l pass.sought.lost pass.visits h i w w' p
settled-at j l h i w w' p p' again pass valid sure high (inl at) =
    elim (visited-or j h i pass.visits w pass.behind pass.runs at) [
      | inl had ↦ inl had
      | inr lost ↦ inr (inr (later-sought j l pass.sought.lost h i pass.visits w pass.behind w' p p pass.runs (parity-none p)
          (lost-sought j l pass.sought.lost h i (flat_map (bad_of j) pass.visits) pass.behind w' p p' pass.hash_came valid high
          (none-right w pass.behind w' p p p' (counting-runs j pass.visits w pass.behind p p pass.runs (parity-none p)) sure) pass.sought.sought lost)))
    ]
settled-at j l h i w w' p p' again pass valid sure high (inr by) =
    let sought = all-visits j l pass.sought.lost (flat_map (bad_of j) pass.visits) pass.behind w' p p' pass.hash_came pass.sought.sought in
    settled-by j l pass.sought.lost h i pass.visits sought.0 w pass.behind w' p sure.hash_none sought.1 by

pub stays-lost : WhatStaysLostIsBeyondParity
stays-lost plan l w w' p p' seeks sure h i high inside =
    let j : Job = job_of plan true in
    let passes = seeks.ends.passes in
    settled-at j l h i passes.last w' passes.last_parity p' seeks.ends.again passes.pass seeks.lies.valid
    (none-right w passes.last w' p passes.last_parity p' (counting-runs j passes.earlier w passes.last p passes.last_parity passes.before passes.parity_read) sure) high (passes.pass.looked h i high inside)
