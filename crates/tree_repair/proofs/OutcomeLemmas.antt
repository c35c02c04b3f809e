-- After a pass each block is good, unless one on its way was lost or the hash device failed.
use Rattle.std.proofs.Common.{◌≡◌, ◌≤◌, ◌<◌, ◌+◌, ◌-◌, ℕ, suc, false, IsTrue, List, [], ◌∷◌, ◌++◌, All, Option, None, Result, Ok, Err, refl, sym, ap, ◌∙◌, subst, arith, inl, inr, ◌⊎◌, add-one}
use Rattle.std.specs.Prelude.{IsErrAnd, OnOk}
use Rattle.std.proofs.lemmas.Bool.{cases_lt}
use Rattle.std.proofs.lemmas.List.Elements.{All-append, All-cons, All-head, All-nil, All-tail}
use Rattle.tree_shape.specs.Digests.{digest}
use Rattle.tree_shape.specs.Shape.{ShapeRecord, IsShape, ancestor, levels}
use Rattle.tree_path.specs.Laws.{Collide}
use Rattle.tree_path.specs.Path.{digest_on}
use Rattle.tree_survey.specs.Surveys.{IsWay}
use Rattle.tree_repair.specs.declared.bad.BadBlocks.{BadBlocks}
use Rattle.tree_repair.specs.declared.repair.Plan.{Plan}
use Rattle.tree_repair.specs.Coverage.{IsFromTo, IsFromUp, IsLookedAt, IsPassedBy, IsVisitedIn}
use Rattle.tree_repair.specs.Outcomes.{IsExcused, IsLostIn, IsSureImage, LeavesWhole, StandsFrom}
use Rattle.tree_repair.specs.Parity.{IsPlace}
use Rattle.tree_repair.specs.Passes.{HasNoted}
use Rattle.tree_repair.specs.Repairs.{LiesOn, job_of}
use Rattle.tree_repair.specs.Runs.{IsDone, Job, VisitsAll, Visit}
use Rattle.tree_repair.specs.Standing.{IsLeftGoodIn, IsSteadyImage, IsWorldSteady, StandsGood}
use Rattle.tree_repair.specs.ParitySearches.{IsCutOff}
use Rattle.tree_repair.specs.Worlds.{HasCountedNone, RepairWorld}
use Rattle.tree_repair.proofs.ApartLemmas.{above-from}
use Rattle.tree_repair.proofs.ExcuseLemmas.{counted-left, counted-right, passed-for, runs-own}
use Rattle.tree_repair.proofs.RunLemmas.{runs-then, world-none}
use Rattle.tree_repair.proofs.StandLemmas.{IsReady, image-ready, lost-or, runs-keep, runs-ready, runs-stand, stands-beside}
use Rattle.tree_repair.proofs.WayLemmas.{hash-block, way-stands, ways-agree}
use Rattle.tree_repair.proofs.lemmas.EachLemmas.{each-or}

-- ---- among more visits

lost-left : (s : ShapeRecord) (h i : ℕ) (vs us : List Visit) → IsLostIn s h i vs → IsLostIn s h i (vs ++ us)
lost-left s h i [] us lost = absurd lost
lost-left s h i (v ∷ more) us (inl here) = inl here
lost-left s h i (v ∷ more) us (inr later) = inr (lost-left s h i more us later)

lost-right : (s : ShapeRecord) (h i : ℕ) (vs us : List Visit) → IsLostIn s h i us → IsLostIn s h i (vs ++ us)
lost-right s h i [] us lost = lost
lost-right s h i (v ∷ more) us lost = inr (lost-right s h i more us lost)

done-left : (vs us : List Visit) → All IsDone (vs ++ us) → All IsDone vs
done-left [] us done = All-nil IsDone
done-left (v ∷ more) us done = All-cons IsDone v more (All-head IsDone v (more ++ us) done) (done-left more us (All-tail IsDone v (more ++ us) done))

excused-left : (j : Job) (vs us : List Visit) (i : ℕ) → IsExcused j i vs → IsExcused j i (vs ++ us)
excused-left j vs us i (inl (h, lost)) = inl (h, lost-left j.tree.shape h i vs us lost)
excused-left j vs us i (inr clash) = inr clash

-- a visit left the block good, or it was lost
visited-or : (s : ShapeRecord) (h i : ℕ) (vs : List Visit) → IsVisitedIn s h i vs → IsLeftGoodIn s h i vs ⊎ IsLostIn s h i vs
visited-or s h i [] visited = absurd visited
visited-or s h i (v ∷ more) (inl at) = elim (lost-or v.mended) [
  | inl lost ↦ inr (inl (at, lost))
  | inr kept ↦ inl (inl (record { at = at; kept = kept }))
]
visited-or s h i (v ∷ more) (inr later) = elim (visited-or s h i more later) [
  | inl left ↦ inl (inr left)
  | inr lost ↦ inr (inr lost)
]

-- ---- a block that was passed by

-- if all hash blocks above a block are good, none of them is corrupt
cut-clash : (j : Job) → IsShape j.tree.shape → (h i k : ℕ) (a : RepairWorld) → IsTrue a.hash_dev.steady → ancestor j.tree.shape (h + 1) k ≡ ancestor j.tree.shape (h + 1) i → (cut : IsCutOff j.tree k h a.hash_dev)
    → StandsGood j (suc cut.l) i a → Collide j.tree.salt
cut-clash j valid h i k a steady beside cut stands =
    let s = j.tree.shape in
    let l : ℕ = cut.l in
    let same : ancestor s (suc l) k ≡ ancestor s (suc l) i = above-from s valid (l - h) (h + 1) (suc l) i k (omega (arith, cut.above)) beside in
    let here : StandsGood j (suc l) k a = stands-beside j valid (suc l) k i a (sym same) stands in
    let up : suc l ≡ l + 1 = sym (add-one l) in
    let way : IsWay j.tree k (l + 1) here.p = subst (λ (n : ℕ). IsWay j.tree k n here.p) up here.way in
    elim (ways-agree j.tree k here.p cut.p (l + 1) way cut.way) [
      | inr clash ↦ clash
      | inl one ↦ absurd (cut.bad (ap (digest j.tree.salt) (cut.stand steady ∙ hash-block j l k a) ∙ here.good ∙ ap (digest_on here.p k) up ∙ one))
    ]

-- ---- one height more

module _ (j : Job) (h : ℕ) (w x y : RepairWorld) (p : StandsFrom j (suc h) w x) (us : List Visit) (runs : VisitsAll j us x y) (done : All IsDone us)
    (looked : (g i : ℕ) → IsFromTo h 0 j.tree.shape.blocks g i → IsLookedAt j g i us x y) (write : IsTrue j.write) (sure : IsSureImage j.tree.shape w y) where
  image : IsSteadyImage j.tree.shape w
  image = sure.image

  ready : IsReady j.tree.shape x
  ready = runs-ready j image.valid write p.visits w x p.runs p.done (image-ready j.tree.shape w image)

  place : (g i : ℕ) → g ≤ levels j.tree.shape → i < j.tree.shape.blocks → IsPlace j.tree.shape g i
  place g i few inside = record { valid = image.valid; inside = inside; high = few }

  -- nor did it count one before these visits, or in them
  sure-before : IsSureImage j.tree.shape w x
  sure-before = record { image = sure.image; sure = counted-left w.hash_dev x.hash_dev y.hash_dev (runs-own j 1 us x y runs) sure.sure }

  none-here : HasCountedNone x.hash_dev y.hash_dev
  none-here = counted-right w.hash_dev x.hash_dev y.hash_dev (runs-own j 1 p.visits w x p.runs) sure.sure

  higher : (g i : ℕ) → h < g → g ≤ levels j.tree.shape → i < j.tree.shape.blocks → StandsGood j g i x ⊎ IsExcused j i p.visits
  higher g i up few inside = p.stand write sure-before g i (up, (few, inside))

  -- those above stay as they were
  higher-kept : (g i : ℕ) → h < g → g ≤ levels j.tree.shape → i < j.tree.shape.blocks → StandsGood j g i y ⊎ IsExcused j i (p.visits ++ us)
  higher-kept g i up few inside = elim (higher g i up few inside) [
    | inl stands ↦ inl (runs-keep j image.valid write us x y runs done ready g i (place g i few inside) stands)
    | inr excused ↦ inr (excused-left j p.visits us i excused)
  ]

  passed-by : (i : ℕ) → i < j.tree.shape.blocks → IsPassedBy j h i us x y → IsExcused j i (p.visits ++ us)
  passed-by i inside q =
      let cut : IsCutOff j.tree q.beside h q.a.hash_dev = passed-for j h i us x y q none-here in
      let few : suc cut.l ≤ levels j.tree.shape = omega (arith, cut.way.few) in
      let earlier_done : All IsDone q.earlier = done-left q.earlier q.later (subst (All IsDone) q.are done) in
      let now : IsReady j.tree.shape q.a = runs-ready j image.valid write q.earlier x q.a q.before earlier_done ready in
      elim (higher (suc cut.l) i (omega (arith, cut.above)) few inside) [
        | inr excused ↦ excused-left j p.visits us i excused
        | inl stands ↦
            inr (cut-clash j image.valid h i q.beside q.a now.hash_ready.steady q.same cut
            (runs-keep j image.valid write q.earlier x q.a q.before earlier_done ready (suc cut.l) i (place (suc cut.l) i few inside) stands))
      ]

  height-here : (i : ℕ) → i < j.tree.shape.blocks → StandsGood j h i y ⊎ IsExcused j i (p.visits ++ us)
  height-here i inside = elim (looked h i (refl, (omega arith, inside))) [
    | inr passed ↦ inr (passed-by i inside passed)
    | inl visited ↦ elim (visited-or j.tree.shape h i us visited) [
      | inl left ↦ inl (runs-stand j image.valid write us x y runs done ready h i inside left)
      | inr lost ↦ inr (inl (h, lost-right j.tree.shape h i p.visits us lost))
    ]
  ]

  height-stands : (g i : ℕ) → IsFromUp j.tree.shape h g i → StandsGood j g i y ⊎ IsExcused j i (p.visits ++ us)
  height-stands g i due = elim (cases_lt h g) [
    | inl up ↦ higher-kept g i up due.1.0 due.1.1
    | inr not ↦
        let same : h ≡ g = omega (arith, due.0, not) in
        subst (λ (n : ℕ). StandsGood j n i y ⊎ IsExcused j i (p.visits ++ us)) same (height-here i due.1.1)
  ]

pub stands-none : (j : Job) (low : ℕ) (w : RepairWorld) → levels j.tree.shape < low → StandsFrom j low w w
stands-none j low w high = record {
  visits = [];
  runs = world-none w;
  done = All-nil IsDone;
  stand = λ write image h i due. absurd (omega (arith, high, due.0, due.1.0));
}

pub stands-next : {j : Job} {w x y : RepairWorld} {old new : Option (List ℕ)} {a b : BadBlocks} (high low : ℕ) → high ≡ suc low → StandsFrom j high w x → HasNoted j (IsFromTo low 0 j.tree.shape.blocks) x y old new a b None → StandsFrom j low w y
stands-next {j} {w} {x} {y} high low next p q =
    let from : StandsFrom j (suc low) w x = subst (λ (n : ℕ). StandsFrom j n w x) next p in
    record {
      visits = from.visits ++ q.run.visits;
      runs = runs-then j from.visits q.run.visits w x y from.runs q.run.runs;
      done = All-append IsDone from.visits q.run.visits from.done (q.run.done refl);
      stand = height-stands j low w x y from q.run.visits q.run.runs (q.run.done refl) (q.looked refl);
    }

-- ---- the whole image

module _ (plan : Plan) (w y : RepairWorld) (lies : LiesOn plan.tree.shape w) where
  sure-image : IsWorldSteady w → HasCountedNone w.hash_dev y.hash_dev → IsSureImage plan.tree.shape w y
  sure-image steady sure = record { image = record { valid = lies.valid; steady = steady; data_fits = lies.data_fits; tree_fits = lies.tree_fits }; sure = sure }

  pub whole-of : StandsFrom (job_of plan false) 0 w y → LeavesWhole plan w y
  whole-of p =
      let j : Job = job_of plan false in
      record {
        lies = lies;
        visits = p.visits;
        runs = p.runs;
        done = p.done;
        good = λ write steady sure i inside.
            elim (each-or (λ (h : ℕ). StandsGood j h i y) (IsExcused j i p.visits) (suc (levels j.tree.shape)) (λ h few. p.stand write (sure-image steady sure) h i (omega arith, (omega (arith, few), inside)))) [
              | inr excused ↦ inr excused
              | inl all ↦ elim (way-stands j i y (λ h few. all h (omega (arith, few)))) [
                | inl good ↦ inl good
                | inr clash ↦ inr (inr clash)
              ]
            ];
      }

-- nothing is said of a fault that is handed on
pub on_ok-from : {T E : Type 0} (r : Result T E) (P : E → Type 0) (Q : Type 0) → IsErrAnd r P → OnOk r Q
on_ok-from (Ok x) P Q is = absurd is
on_ok-from (Err e) P Q is = tt
