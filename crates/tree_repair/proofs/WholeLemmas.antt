-- If all blocks were visited, and each was good after its visit, all are good after the run.
use Rattle.std.proofs.Common.{◌≡◌, ◌≤◌, ◌<◌, ◌/◌, ℕ, zero, suc, Bool, true, false, IsTrue, List, [], ◌∷◌, ◌++◌, All, Option, None, refl, sym, ap, ◌∙◌, subst, arith, inl, inr, ◌⊎◌}
use Rattle.std.specs.Prelude.{◌||◌, ◌&&◌, not}
use Rattle.std.specs.List.{concat}
use Rattle.std.proofs.lemmas.Bool.{false≢true, true≢false}
use Rattle.std.proofs.lemmas.List.Elements.{All-head, All-tail}
use Rattle.std.proofs.lemmas.Option.{none-some}
use Rattle.block_device.specs.Device.{Device, run_of}
use Rattle.tree_shape.specs.Digests.{digest}
use Rattle.tree_shape.specs.Shape.{ShapeRecord, IsShape, levels}
use Rattle.tree_path.specs.Laws.{Collide}
use Rattle.verity_format.proofs.lemmas.DeviceLemmas.{steady-then}
use Rattle.tree_survey.specs.Surveys.{IsContentStoredAs}
use Rattle.tree_repair.specs.declared.bad.BadBlocks.{BadBlocks}
use Rattle.tree_repair.specs.declared.mending.Mended.{Mended}
use Rattle.tree_repair.specs.declared.mending.Mended.TheVariants as mended
use Rattle.tree_repair.specs.declared.outcome.Failures.{Failures}
use Rattle.tree_repair.specs.declared.outcome.Outcome.{Outcome}
use Rattle.tree_repair.specs.declared.outcome.Outcome.TheVariants.{Partly, Whole}
use Rattle.tree_repair.specs.declared.repair.Plan.{Plan}
use Rattle.tree_repair.specs.Coverage.{IsFromUp, IsVisitedIn}
use Rattle.tree_repair.specs.Failures.{AreUncounted}
use Rattle.tree_repair.specs.Mending.{IsAllowedPut, IsMended, BlockCheck}
use Rattle.tree_repair.specs.Noting.{found_of, pass_outcome}
use Rattle.tree_repair.specs.Outcomes.{IsGoodThenIn, IsOutcomeOf, IsPartlyCause, LeavesAllGood, StandsFrom}
use Rattle.tree_repair.specs.Passes.{HasNoted, IsGoodThen}
use Rattle.tree_repair.specs.Repairs.{LiesOn, job_of}
use Rattle.tree_repair.specs.Runs.{IsDone, IsVisited, Job, VisitsAll, Visit, look_at, other, own, sector_at, size_at}
use Rattle.tree_repair.specs.Standing.{IsLeftGoodIn, IsNotLost, IsSteadyImage, StandsGood}
use Rattle.tree_repair.specs.Worlds.{IsImageUnfailed, IsWorldRead, RepairWorld}
use Rattle.tree_repair.proofs.FlawLemmas.{flaws-happen}
use Rattle.tree_repair.proofs.OutcomeLemmas.{whole-of}
use Rattle.tree_repair.proofs.PutLemmas.{lost-image}
use Rattle.tree_repair.proofs.RunLemmas.{AreSame, are-then, other-image, read-same, visited-same}
use Rattle.tree_repair.proofs.StandLemmas.{image-ready, runs-stand, stands-as, stands-beside}
use Rattle.tree_repair.proofs.WayLemmas.{way-stands}

-- ---- which visits they are

pub good-in-all : (j : Job) (h i : ℕ) (vs : List Visit) → All (IsGoodThen j) vs → IsVisitedIn j.tree.shape h i vs → IsGoodThenIn j.write j.tree.shape h i vs
good-in-all j h i [] all at = absurd at
good-in-all j h i (v ∷ more) all (inl here) = inl (here, All-head (IsGoodThen j) v more all)
good-in-all j h i (v ∷ more) all (inr later) = inr (good-in-all j h i more (All-tail (IsGoodThen j) v more all) later)

pub good-in-left : (write : Bool) (s : ShapeRecord) (h i : ℕ) (vs us : List Visit) → IsGoodThenIn write s h i vs → IsGoodThenIn write s h i (vs ++ us)
good-in-left write s h i [] us at = absurd at
good-in-left write s h i (v ∷ more) us (inl here) = inl here
good-in-left write s h i (v ∷ more) us (inr later) = inr (good-in-left write s h i more us later)

pub good-in-right : (write : Bool) (s : ShapeRecord) (h i : ℕ) (vs us : List Visit) → IsGoodThenIn write s h i us → IsGoodThenIn write s h i (vs ++ us)
good-in-right write s h i [] us at = at
good-in-right write s h i (v ∷ more) us at = inr (good-in-right write s h i more us at)

-- ---- where anything may be written

not-lost : (write : Bool) (m : Mended) → found_of write m ≡ None → IsNotLost m
not-lost write mended.Good good = tt
not-lost write (mended.Copy k) good = tt
not-lost write mended.Remade good = tt
not-lost write mended.Parity good = tt
not-lost write mended.Lost good = absurd (none-some false (sym good))

left-good : (write : Bool) (s : ShapeRecord) (h i : ℕ) (vs : List Visit) → IsGoodThenIn write s h i vs → IsLeftGoodIn s h i vs
left-good write s h i [] at = absurd at
left-good write s h i (v ∷ more) (inl here) = inl (record { at = here.0; kept = not-lost write v.mended here.1 })
left-good write s h i (v ∷ more) (inr later) = inr (left-good write s h i more later)

-- ---- where nothing may be written

-- steady devices hold what they held
record IsHeld (a b : RepairWorld) : Type 0 where
  pub data_held : IsTrue a.data_dev.steady → b.data_dev.image ≡ a.data_dev.image
  pub hash_held : IsTrue a.hash_dev.steady → b.hash_dev.image ≡ a.hash_dev.image
  pub same : AreSame a b

record AreBothSteady (a : RepairWorld) : Type 0 where
  pub data_steady : IsTrue a.data_dev.steady
  pub hash_steady : IsTrue a.hash_dev.steady

both-then : (a b : RepairWorld) → AreSame a b → AreBothSteady a → AreBothSteady b
both-then a b same steady = record { data_steady = steady-then same.data_same steady.data_steady; hash_steady = steady-then same.hash_same steady.hash_steady }

held-then : (a b c : RepairWorld) → IsHeld a b → IsHeld b c → IsHeld a c
held-then a b c p q = record {
  data_held = λ steady. q.data_held (steady-then p.same.data_same steady) ∙ p.data_held steady;
  hash_held = λ steady. q.hash_held (steady-then p.same.hash_same steady) ∙ p.hash_held steady;
  same = are-then a b c p.same q.same;
}

read-held : (a b : RepairWorld) → IsWorldRead a b → IsHeld a b
read-held a b read = record { data_held = read.data_read.image; hash_held = read.hash_read.image; same = read-same a b read }

put-held : (write : Bool) (old : Device) (first sectors : ℕ) (bytes : List ℕ) (done : Bool) (new : Device) → write ≡ false → IsAllowedPut write old first sectors bytes done new → new.image ≡ old.image
put-held true old first sectors bytes done new never put = absurd (true≢false never)
put-held false old first sectors bytes done new never put = ap (λ (d : Device). d.image) put.0

look-held : (l : BlockCheck) (bytes : List ℕ) (done : Bool) (m : Mended) → l.write ≡ false → IsMended l bytes done m → IsTrue l.old.steady → l.new.image ≡ l.old.image
look-held l bytes done mended.Good never found steady = found.read.image steady
look-held l bytes done (mended.Copy k) never found steady = put-held l.write found.between l.first l.w.sectors bytes done l.new never found.put ∙ found.read.image steady
look-held l bytes done mended.Remade never found steady =
    put-held l.write found.between l.first l.w.sectors bytes done l.new never found.put ∙ found.beneath_read.image (steady-then found.read.same steady) ∙ found.read.image steady
look-held l bytes done mended.Parity never found steady =
    put-held l.write found.replaced.between l.first l.w.sectors bytes done l.new never found.replaced.put ∙ found.replaced.read.image steady
look-held l bytes done mended.Lost never found steady = lost-image l bytes done found steady

at-held : (h : ℕ) (a b : RepairWorld) → (IsTrue (own h a).steady → (own h b).image ≡ (own h a).image) → (IsTrue (other h a).steady → (other h b).image ≡ (other h a).image) → AreSame a b → IsHeld a b
at-held zero a b here there same = record { data_held = here; hash_held = there; same = same }
at-held (suc l) a b here there same = record { data_held = there; hash_held = here; same = same }

only-good : (write : Bool) (m : Mended) → write ≡ false → found_of write m ≡ None → m ≡ mended.Good
only-good write mended.Good never good = refl
only-good true (mended.Copy k) never good = absurd (true≢false never)
only-good false (mended.Copy k) never good = absurd (none-some true (sym good))
only-good true mended.Remade never good = absurd (true≢false never)
only-good false mended.Remade never good = absurd (none-some true (sym good))
only-good true mended.Parity never good = absurd (true≢false never)
only-good false mended.Parity never good = absurd (none-some true (sym good))
only-good write mended.Lost never good = absurd (none-some false (sym good))

own-steady : (h : ℕ) (w : RepairWorld) → AreBothSteady w → IsTrue (own h w).steady
own-steady zero w steady = steady.data_steady
own-steady (suc l) w steady = steady.hash_steady

own-held : (h : ℕ) (a b : RepairWorld) → IsHeld a b → AreBothSteady a → (own h b).image ≡ (own h a).image
own-held zero a b held steady = held.data_held steady.data_steady
own-held (suc l) a b held steady = held.hash_held steady.hash_steady

module _ (j : Job) (valid : IsShape j.tree.shape) (never : j.write ≡ false) where
  visit-held : (v : Visit) (a b : RepairWorld) → IsVisited j v a b → IsHeld a b
  visit-held v a b here =
      at-held v.height a b (look-held (look_at j here.p v.height v.index a b) v.bytes v.done v.mended never here.mended_as)
      (other-image v.height v.mended (other v.height a) (other v.height b) here.other_stays) (visited-same j v a b here)

  runs-held : (vs : List Visit) (a b : RepairWorld) → VisitsAll j vs a b → IsHeld a b
  runs-held [] a b read = read-held a b read
  runs-held (v ∷ more) a b (x, (y, (read, (here, rest)))) = held-then a x b (read-held a x read) (held-then x y b (visit-held v x y here) (runs-held more y b rest))

  held-stands : (h i : ℕ) (a b : RepairWorld) → IsHeld a b → AreBothSteady a → StandsGood j h i a → StandsGood j h i b
  held-stands h i a b held steady stands =
      stands-as j h i a b (ap (λ (im : List (List ℕ)). concat (run_of im (sector_at j.tree.shape h i) (size_at j.tree.shape h / 512))) (own-held h a b held steady)) stands

  -- a block that was found good was stored there
  found-stands : (v : Visit) (a b : RepairWorld) → IsVisited j v a b → v.mended ≡ mended.Good → AreBothSteady a → StandsGood j v.height v.index a
  found-stands v a b here is steady =
      let found = subst (λ (m : Mended). IsMended (look_at j here.p v.height v.index a b) v.bytes v.done m) is here.mended_as in
      record { p = here.p; way = here.way; good = ap (digest j.tree.salt) (sym (found.there.stand (own-steady v.height a steady))) ∙ found.there.good }

  runs-good : (vs : List Visit) (a b : RepairWorld) → VisitsAll j vs a b → AreBothSteady a → (h i : ℕ) → IsGoodThenIn j.write j.tree.shape h i vs → StandsGood j h i b
  runs-good [] a b read steady h i at = absurd at
  runs-good (v ∷ more) a b (x, (y, (read, (here, rest)))) steady h i (inl (at, good)) =
      let now : AreBothSteady x = both-then a x (read-same a x read) steady in
      let stands : StandsGood j h v.index x = subst (λ (n : ℕ). StandsGood j n v.index x) at.height_is (found-stands v x y here (only-good j.write v.mended never good) now) in
      held-stands h i x b (held-then x y b (visit-held v x y here) (runs-held more y b rest)) now (stands-beside j valid h i v.index x at.same stands)
  runs-good (v ∷ more) a b (x, (y, (read, (here, rest)))) steady h i (inr later) =
      let now : AreBothSteady x = both-then a x (read-same a x read) steady in
      runs-good more y b rest (both-then x y (visited-same j v x y here) now) h i later

-- ---- the whole image

pub bool-or : (b : Bool) → IsTrue b ⊎ (b ≡ false)
bool-or true = inl refl
bool-or false = inr refl

module _ (j : Job) (vs : List Visit) (w w' : RepairWorld) (runs : VisitsAll j vs w w') (done : All IsDone vs) (image : IsSteadyImage j.tree.shape w) where
  all-stand : (h i : ℕ) → i < j.tree.shape.blocks → IsGoodThenIn j.write j.tree.shape h i vs → StandsGood j h i w'
  all-stand h i inside at = elim (bool-or j.write) [
    | inl write ↦ runs-stand j image.valid write vs w w' runs done (image-ready j.tree.shape w image) h i inside (left-good j.write j.tree.shape h i vs at)
    | inr never ↦ runs-good j image.valid never vs w w' runs (record { data_steady = image.steady.data_steady; hash_steady = image.steady.hash_steady }) h i at
  ]

  all-stored : (i : ℕ) → i < j.tree.shape.blocks → ((h : ℕ) → h ≤ levels j.tree.shape → IsGoodThenIn j.write j.tree.shape h i vs) → IsContentStoredAs j.tree w'.data_dev.image w'.hash_dev.image i None ⊎ Collide j.tree.salt
  all-stored i inside each = way-stands j i w' (λ h few. all-stand h i inside (each h few))

-- no call of either device failed
pub unfailed-since : (before : Failures) (w w' : RepairWorld) → before.data ≡ w.data_dev.failures → before.hash ≡ w.hash_dev.failures → AreUncounted before w' → IsImageUnfailed w w'
unfailed-since before w w' first second none = record {
  data_none = record { none = omega (arith, none.data_same, first); below = none.data_below };
  hash_none = record { none = omega (arith, none.hash_same, second); below = none.hash_below };
}

pub all-good-of : (plan : Plan) (parity : Bool) (w w' : RepairWorld) (vs : List Visit) → LiesOn plan.tree.shape w → VisitsAll (job_of plan parity) vs w w' → All IsDone vs
    → ((h i : ℕ) → h ≤ levels plan.tree.shape → i < plan.tree.shape.blocks → IsGoodThenIn plan.write plan.tree.shape h i vs) → IsImageUnfailed w w' → LeavesAllGood plan parity w w' plan.tree.shape.blocks
all-good-of plan parity w w' vs lies runs done each unfailed = record {
  lies = lies;
  count_is = refl;
  visits = vs;
  runs = runs;
  done = done;
  each = each;
  data_unfailed = unfailed.data_none;
  hash_unfailed = unfailed.hash_none;
  good = λ steady i inside.
      all-stored (job_of plan parity) vs w w' runs done (record { valid = lies.valid; steady = steady; data_fits = lies.data_fits; tree_fits = lies.tree_fits }) i inside (λ h few. each h i few inside);
}

-- ---- what is known after a pass

pub outcome-by : (good sure : Bool) (n : ℕ) (P : Outcome → Type 0) → (IsTrue good → IsTrue sure → P (Whole n)) → ((good ≡ false) ⊎ (sure ≡ false) → P Partly) → P (pass_outcome (good && sure) n)
outcome-by true true n P all partly = all refl refl
outcome-by true false n P all partly = partly (inr refl)
outcome-by false sure n P all partly = partly (inl refl)

none-of : (some by : Bool) → IsTrue (not (some || by)) → (some ≡ false) × (by ≡ false)
none-of true by none = absurd (false≢true none)
none-of false true none = absurd (false≢true none)
none-of false false none = (refl, refl)

module _ (plan : Plan) (j : Job) (w y : RepairWorld) (same : j ≡ job_of plan false) (lies : LiesOn plan.tree.shape w) where
  -- all that was due was visited, and is good
  all-good-noted : {old new : Option (List ℕ)} {a b : BadBlocks} → HasNoted (job_of plan false) (IsFromUp plan.tree.shape 0) w y old new a b None → (b.any ≡ false) × (b.passed ≡ false) → IsImageUnfailed w y → LeavesAllGood plan false w y plan.tree.shape.blocks
  all-good-noted notes none unfailed =
      all-good-of plan false w y notes.run.visits lies notes.run.runs (notes.run.done refl)
      (λ h i few inside. good-in-all (job_of plan false) h i notes.run.visits (notes.any refl none.0).1 ((notes.passed refl none.1).1 h i (omega arith, (few, inside)))) unfailed

  module _ {old new : Option (List ℕ)} {a b : BadBlocks} (good sure : Bool) (fresh : (a.any ≡ false) × (a.passed ≡ false)) (is : good ≡ not (b.any || b.passed)) (unfailed : IsTrue sure → IsImageUnfailed w y) (failed : sure ≡ false → IsImageUnfailed w y → ⊥) where
    -- or there is a cause
    partly-job : HasNoted (job_of plan false) (IsFromUp plan.tree.shape 0) w y old new a b None → (good ≡ false) ⊎ (sure ≡ false) → IsPartlyCause (job_of plan false) w y
    partly-job notes (inl some) = inr (flaws-happen (job_of plan false) w y a b fresh.0 fresh.1 (notes.flaws refl) (sym is ∙ some))
    partly-job notes (inr unsure) = inl (failed unsure)

    outcome-job : HasNoted (job_of plan false) (IsFromUp plan.tree.shape 0) w y old new a b None → StandsFrom (job_of plan false) 0 w y → IsOutcomeOf plan w y (pass_outcome (good && sure) plan.tree.shape.blocks)
    outcome-job notes stands =
        outcome-by good sure plan.tree.shape.blocks (IsOutcomeOf plan w y) (λ all known. all-good-noted notes (none-of b.any b.passed (subst IsTrue is all)) (unfailed known)) (λ why. (whole-of plan w y lies stands, partly-job notes why))

    pub outcome-of : (n : ℕ) → n ≡ j.tree.shape.blocks → HasNoted j (IsFromUp j.tree.shape 0) w y old new a b None → StandsFrom j 0 w y → IsOutcomeOf plan w y (pass_outcome (good && sure) n)
    outcome-of n count notes stands =
        subst (λ (m : ℕ). IsOutcomeOf plan w y (pass_outcome (good && sure) m)) (sym (count ∙ ap (λ (k : Job). k.tree.shape.blocks) same))
        (outcome-job (subst (λ (k : Job). HasNoted k (IsFromUp k.tree.shape 0) w y old new a b None) same notes) (subst (λ (k : Job). StandsFrom k 0 w y) same stands))
