-- Blocks that came back by parity, and an image that is all good by then.
use Rattle.std.proofs.Common.{◌≡◌, ◌<◌, ◌+◌, ℕ, Bool, true, false, IsTrue, List, [], ◌∷◌, ◌++◌, All, Option, None, Some, take, get_or, length, refl, sym, ap, ◌∙◌, subst, arith, inl, inr, ◌⊎◌, ◌&&◌}
use Rattle.std.specs.List.{flat_map}
use Rattle.std.proofs.lemmas.Bool.{and_parts, false≢true}
use Rattle.std.proofs.lemmas.List.{take_more}
use Rattle.std.proofs.lemmas.List.Elements.{All-append, All-cons, All-head, All-nil, All-tail}
use Rattle.std.proofs.lemmas.Option.{none-some}
use Rattle.block_device.specs.Device.{Device}
use Rattle.fec_area.specs.declared.layout.Layout.{Layout}
use Rattle.tree_shape.specs.Shape.{ShapeRecord, ancestor}
use Rattle.tree_repair.specs.declared.bad.BadBlock.{BadBlock}
use Rattle.tree_repair.specs.declared.bad.BadBlocks.{BadBlocks}
use Rattle.tree_repair.specs.declared.mending.Mended.{Mended}
use Rattle.tree_repair.specs.declared.mending.Mended.TheVariants as mended
use Rattle.tree_repair.specs.declared.repair.Plan.{Plan}
use Rattle.tree_repair.specs.Coverage.{IsFromUp, IsVisitAt, IsVisitedIn}
use Rattle.tree_repair.specs.Noting.{bad_blocks, found_of, pass_outcome}
use Rattle.tree_repair.specs.Outcomes.{IsAllGood, IsGoodThenIn, IsParityOutcome}
use Rattle.tree_repair.specs.Passes.{AreBack, HasNoted, IsBackIn, IsGoodThen, bad_of}
use Rattle.tree_repair.specs.Repairs.{LiesOn, job_of}
use Rattle.tree_repair.specs.Runs.{HasRun, IsDone, Job, Visit, visit}
use Rattle.tree_repair.specs.ParitySearches.{IsSought, IsSoughtAt, trial}
use Rattle.tree_repair.specs.Worlds.{IsImageUnfailed, RepairWorld}
use Rattle.tree_repair.proofs.RunLemmas.{runs-then, world-none, world-then}
use Rattle.tree_repair.proofs.WholeLemmas.{all-good-of, bool-or, good-in-right, outcome-by}

-- ---- one after another

back-left : (s : ShapeRecord) (b : BadBlock) (vs us : List Visit) → IsBackIn s b vs → IsBackIn s b (vs ++ us)
back-left s b [] us at = absurd at
back-left s b (v ∷ more) us (inl here) = inl here
back-left s b (v ∷ more) us (inr later) = inr (back-left s b more us later)

back-right : (s : ShapeRecord) (b : BadBlock) (vs us : List Visit) → IsBackIn s b us → IsBackIn s b (vs ++ us)
back-right s b [] us at = at
back-right s b (v ∷ more) us at = inr (back-right s b more us at)

each-back : (s : ShapeRecord) (bs : List BadBlock) (vs us : List Visit) → All (λ (b : BadBlock). IsBackIn s b vs) bs → All (λ (b : BadBlock). IsBackIn s b (vs ++ us)) bs
each-back s [] vs us all = All-nil (λ (b : BadBlock). IsBackIn s b (vs ++ us))
each-back s (b ∷ more) vs us all =
    All-cons (λ (c : BadBlock). IsBackIn s c (vs ++ us)) b more (back-left s b vs us (All-head (λ (c : BadBlock). IsBackIn s c vs) b more all))
    (each-back s more vs us (All-tail (λ (c : BadBlock). IsBackIn s c vs) b more all))

each-behind : (s : ShapeRecord) (bs : List BadBlock) (vs us : List Visit) → All (λ (b : BadBlock). IsBackIn s b us) bs → All (λ (b : BadBlock). IsBackIn s b (vs ++ us)) bs
each-behind s [] vs us all = All-nil (λ (b : BadBlock). IsBackIn s b (vs ++ us))
each-behind s (b ∷ more) vs us all =
    All-cons (λ (c : BadBlock). IsBackIn s c (vs ++ us)) b more (back-right s b vs us (All-head (λ (c : BadBlock). IsBackIn s c us) b more all))
    (each-behind s more vs us (All-tail (λ (c : BadBlock). IsBackIn s c us) b more all))

pub back-none : (j : Job) (w : RepairWorld) → AreBack j [] w w
back-none j w = record { visits = []; runs = world-none w; done = All-nil IsDone; each = All-nil (λ (b : BadBlock). IsBackIn j.tree.shape b []) }

-- a block that came back is a visit
back-at : (j : Job) (l : Layout) (lost : List ℕ) (b : BadBlock) (found : Bool) (x y : RepairWorld) (q r : Device) → IsSoughtAt j b.place.height b.place.index (trial l lost x y q r) found true → AreBack j (b ∷ []) x y
back-at j l lost b true x y q r sought = absurd (false≢true (sym sought.0))
back-at j l lost b false x y q r (inl not) = absurd (false≢true (sym not.0))
back-at j l lost b false x y q r (inr behind) =
    let brought = behind.tried.0 in
    let v : Visit = visit b.place.height b.place.index mended.Parity brought.bytes true in
    record {
      visits = v ∷ [];
      runs = (brought.between, (brought.behind, (world-then x behind.between brought.between behind.read brought.read, (brought.visited, brought.read_back))));
      done = All-cons IsDone v [] refl (All-nil IsDone);
      each = All-cons (λ (c : BadBlock). IsBackIn j.tree.shape c (v ∷ [])) b [] (inl (record { height_is = refl; same = refl }, refl)) (All-nil (λ (c : BadBlock). IsBackIn j.tree.shape c (v ∷ [])));
    }

back-then : (j : Job) (bs cs : List BadBlock) (w x y : RepairWorld) → AreBack j bs w x → AreBack j cs x y → AreBack j (bs ++ cs) w y
back-then j bs cs w x y p q = record {
  visits = p.visits ++ q.visits;
  runs = runs-then j p.visits q.visits w x y p.runs q.runs;
  done = All-append IsDone p.visits q.visits p.done q.done;
  each = All-append (λ (b : BadBlock). IsBackIn j.tree.shape b (p.visits ++ q.visits)) bs cs (each-back j.tree.shape bs p.visits q.visits p.each) (each-behind j.tree.shape cs p.visits q.visits q.each);
}

-- one more of some
pub back-next : (j : Job) (l : Layout) (lost : List ℕ) (bs : List BadBlock) (i : ℕ) (b : BadBlock) (w x y : RepairWorld) (q r : Device) (all back both : Bool) → i < length bs → both ≡ (all && back) → (IsTrue all → AreBack j (take i bs) w x)
    → IsSought j (get_or bs i b) (trial l lost x y q r) back → IsTrue both → AreBack j (take (i + 1) bs) w y
back-next j l lost bs i b w x y q r all back both inside is before sought true_now =
    let parts = and_parts all back (subst IsTrue is true_now) in
    let now : IsSought j (get_or bs i b) (trial l lost x y q r) true = subst (IsSought j (get_or bs i b) (trial l lost x y q r)) parts.1 sought in
    subst (λ (xs : List BadBlock). AreBack j xs w y) (sym (take_more bs i b inside))
    (back-then j (take i bs) (get_or bs i b ∷ []) w x y (before parts.0) (back-at j l lost (get_or bs i b) (get_or bs i b).found x y q r now))

-- ---- a pass

all-left : {X : Type 0} (P : X → Type 0) (xs ys : List X) → All P (xs ++ ys) → All P xs
all-left P [] ys all = All-nil P
all-left P (x ∷ xs) ys all = All-cons P x xs (All-head P x (xs ++ ys) all) (all-left P xs ys (All-tail P x (xs ++ ys) all))

all-right : {X : Type 0} (P : X → Type 0) (xs ys : List X) → All P (xs ++ ys) → All P ys
all-right P [] ys all = all
all-right P (x ∷ xs) ys all = all-right P xs ys (All-tail P x (xs ++ ys) all)

by-parity : (write : Bool) (m : Mended) → IsTrue write → m ≡ mended.Parity → found_of write m ≡ None
by-parity true m writes is = ap (found_of true) is
by-parity false m writes is = absurd (false≢true writes)

-- a block that came back is good after that visit
back-good : (write : Bool) (s : ShapeRecord) (h i : ℕ) (b : BadBlock) (us : List Visit) → IsTrue write → b.place.height ≡ h → ancestor s h b.place.index ≡ ancestor s h i → IsBackIn s b us → IsGoodThenIn write s h i us
back-good write s h i b [] writes high same at = absurd at
back-good write s h i b (u ∷ more) writes high same (inl (at, is)) =
    inl (record { height_is = at.height_is ∙ high; same = subst (λ (n : ℕ). ancestor s n u.index ≡ ancestor s n b.place.index) high at.same ∙ same }, by-parity write u.mended writes is)
back-good write s h i b (u ∷ more) writes high same (inr later) = inr (back-good write s h i b more writes high same later)

module _ (j : Job) (us : List Visit) (h i : ℕ) where
  -- a visited block is good then, or came back since
  here-good : (v : Visit) (r : Option Bool) → found_of j.write v.mended ≡ r → (j.write ≡ false → IsGoodThen j v) → All (λ (b : BadBlock). IsBackIn j.tree.shape b us) (bad_blocks (record { height = v.height; index = v.index }) r) → IsVisitAt j.tree.shape h i v
      → (found_of j.write v.mended ≡ None) ⊎ IsGoodThenIn j.write j.tree.shape h i us
  here-good v None is clean all at = inl is
  here-good v (Some found) is clean all at = elim (bool-or j.write) [
    | inr never ↦ absurd (none-some found (sym (clean never) ∙ is))
    | inl write ↦
        let b : BadBlock = record { place = record { height = v.height; index = v.index }; found = found } in
        inr (back-good j.write j.tree.shape h i b us write at.height_is at.same (All-head (λ (c : BadBlock). IsBackIn j.tree.shape c us) b [] all))
  ]

  visits-good : (vs : List Visit) → (j.write ≡ false → All (IsGoodThen j) vs) → All (λ (b : BadBlock). IsBackIn j.tree.shape b us) (flat_map (bad_of j) vs) → IsVisitedIn j.tree.shape h i vs → IsGoodThenIn j.write j.tree.shape h i (vs ++ us)
  visits-good [] clean all at = absurd at
  visits-good (v ∷ more) clean all (inl at) = elim (here-good v (found_of j.write v.mended) refl (λ never. All-head (IsGoodThen j) v more (clean never)) (all-left (λ (b : BadBlock). IsBackIn j.tree.shape b us) (bad_of j v) (flat_map (bad_of j) more) all) at) [
    | inl good ↦ inl (at, good)
    | inr behind ↦ inr (good-in-right j.write j.tree.shape h i more us behind)
  ]
  visits-good (v ∷ more) clean all (inr later) =
      inr (visits-good more (λ never. All-tail (IsGoodThen j) v more (clean never)) (all-right (λ (b : BadBlock). IsBackIn j.tree.shape b us) (bad_of j v) (flat_map (bad_of j) more) all) later)

-- all blocks of a pass were visited, and those that weren't good came back
pub all-good-pass : {j : Job} {w x y : RepairWorld} {old new : Option (List ℕ)} {a b : BadBlocks} (blocks : List BadBlock) → HasNoted j (IsFromUp j.tree.shape 0) w x old new a b None → IsTrue a.asked → a.blocks.items ≡ [] → blocks ≡ b.blocks.items → AreBack j blocks x y
    → b.passed ≡ false → (j.write ≡ false → b.any ≡ false) → IsAllGood j w y
all-good-pass {j} {w} {x} {y} {old} {new} {a} {b} blocks notes on none are back by clean =
    let vs = notes.run.visits in
    let same : blocks ≡ flat_map (bad_of j) vs = are ∙ notes.noted refl on ∙ ap (λ (l : List BadBlock). l ++ flat_map (bad_of j) vs) none in
    let each : All (λ (c : BadBlock). IsBackIn j.tree.shape c back.visits) (flat_map (bad_of j) vs) = subst (All (λ (c : BadBlock). IsBackIn j.tree.shape c back.visits)) same back.each in
    record {
      visits = vs ++ back.visits;
      runs = runs-then j vs back.visits w x y notes.run.runs back.runs;
      done = All-append IsDone vs back.visits (notes.run.done refl) back.done;
      each = λ h i few inside.
          visits-good j back.visits h i vs (λ never. (notes.any refl (clean never)).1) each ((notes.passed refl by).1 h i (omega arith, (few, inside)));
    }

-- all is good after a pass that follows others
pub all-good-behind : {j : Job} {w x y : RepairWorld} {old new : Option (List ℕ)} → HasRun j w x old new None → IsAllGood j x y → IsAllGood j w y
all-good-behind {j} {w} {x} {y} run all = record {
  visits = run.visits ++ all.visits;
  runs = runs-then j run.visits all.visits w x y run.runs all.runs;
  done = All-append IsDone run.visits all.visits (run.done refl) all.done;
  each = λ h i few inside. good-in-right j.write j.tree.shape h i run.visits all.visits (all.each h i few inside);
}

-- ---- the whole

module _ (plan : Plan) (j : Job) (w y : RepairWorld) (same : j ≡ job_of plan true) (lies : LiesOn plan.tree.shape w) where
  parity-job : (all sure : Bool) → (IsTrue all → IsAllGood (job_of plan true) w y) → (IsTrue sure → IsImageUnfailed w y) → IsParityOutcome plan w y (pass_outcome (all && sure) plan.tree.shape.blocks)
  parity-job all sure good unfailed = outcome-by all sure plan.tree.shape.blocks (IsParityOutcome plan w y)
      (λ is known. (let g = good is in all-good-of plan true w y g.visits lies g.runs g.done g.each (unfailed known))) (λ why. tt)

  pub parity-outcome : (all sure : Bool) (n : ℕ) → n ≡ j.tree.shape.blocks → (IsTrue all → IsAllGood j w y) → (IsTrue sure → IsImageUnfailed w y) → IsParityOutcome plan w y (pass_outcome (all && sure) n)
  parity-outcome all sure n count good unfailed =
      subst (λ (m : ℕ). IsParityOutcome plan w y (pass_outcome (all && sure) m)) (sym (count ∙ ap (λ (k : Job). k.tree.shape.blocks) same))
      (parity-job all sure (λ is. subst (λ (k : Job). IsAllGood k w y) same (good is)) unfailed)
