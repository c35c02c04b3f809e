-- Passes of a repair with parity, and which blocks are sought by it.
use Rattle.std.proofs.Common.{◌≡◌, ◌≤◌, ◌<◌, ◌+◌, ℕ, zero, suc, Bool, true, false, IsTrue, Result, Ok, Err, List, [], ◌∷◌, ◌++◌, length, take, get_or, Option, None, Some, refl, sym, ap, ◌∙◌, subst, arith, inl, inr, zero-add}
use Rattle.std.specs.Prelude.{◌⊎◌, ◌&&◌, ◌||◌, IsErrAnd, nat_lt, sum_by}
use Rattle.std.proofs.lemmas.Bool.{and_parts, false≢true, ltb-true, or_cases}
use Rattle.std.specs.Io.KnownBytes.{Appends}
use Rattle.std.proofs.lemmas.List.Sums.{sum_by-append, sum_by-cons, sum_by_more, sum_by_more_le}
use Rattle.std.specs.List.{flat_map}
use Rattle.std.specs.Result.{result_err}
use Rattle.block_device.specs.Device.{Device}
use Rattle.fec_area.specs.declared.layout.Layout.{Layout}
use Rattle.tree_shape.specs.Shape.{ShapeRecord}
use Rattle.tree_repair.specs.declared.bad.BadBlock.{BadBlock}
use Rattle.tree_repair.specs.declared.bad.BadBlocks.{BadBlocks}
use Rattle.tree_repair.specs.declared.fault.RepairFault.{RepairFault}
use Rattle.tree_repair.specs.declared.mending.Mended.{Mended}
use Rattle.tree_repair.specs.declared.mending.Mended.TheVariants as mended
use Rattle.tree_repair.specs.declared.parity.ParityOutcome.{ParityOutcome}
use Rattle.tree_repair.specs.declared.repair.Plan.{Plan}
use Rattle.tree_repair.specs.AccessBudgets.{LeavesWorld, nothing_due, pass_over}
use Rattle.tree_repair.specs.Noting.{bad_blocks, found_of}
use Rattle.tree_repair.specs.Coverage.{IsFromUp}
use Rattle.tree_repair.specs.ParityBounds.{IsAskedWithin, LeavesNoted, RepairsInPasses, RunsInPasses, TellsOfHash, back_of, hashes_back, image_blocks, lost_of, parity_bill, sought_among, told_of, tree_told, tries_of}
use Rattle.tree_repair.specs.Passes.{HasNoted, bad_of}
use Rattle.tree_repair.specs.Repairs.{LiesOn, job_of}
use Rattle.tree_repair.specs.Runs.{HasRun, IsVisited, Job, Visit, visit, visit_line}
use Rattle.tree_repair.specs.Worlds.{IsWorldRead, RepairWorld}
use Rattle.tree_repair.proofs.ParityBillLemmas.{times-sum, work-more, work-pass, work-then}
use Rattle.tree_repair.proofs.RunLemmas.{has-behind, has-one, has-then}

-- ---- one after another

module _ {w x y : RepairWorld} {p q r : Device} (s : ShapeRecord) (l : Layout) (bs : List BadBlock) (i : ℕ) (b : BadBlock) (inside : i < length bs) where
  pub work-next : IsAskedWithin (parity_bill s l 0 0 (sought_among (take i bs))) w x p q → IsAskedWithin (parity_bill s l 0 0 (tries_of (get_or bs i b).found)) x y q r → IsAskedWithin (parity_bill s l 0 0 (sought_among (take (i + 1) bs))) w y p r
  work-next one two =
      work-then s l 0 0 0 0 0 0 (sought_among (take i bs)) (tries_of (get_or bs i b).found) (sought_among (take (i + 1) bs)) refl refl (sym (sum_by_more (λ (c : BadBlock). tries_of c.found) bs i b inside)) one two

  -- of the blocks after the last one nothing is known
  pub work-last : IsAskedWithin (parity_bill s l 0 0 (sought_among (take i bs))) w x p q → IsAskedWithin (parity_bill s l 0 0 (tries_of (get_or bs i b).found)) x y q r → IsAskedWithin (parity_bill s l 0 0 (sought_among bs)) w y p r
  work-last one two =
      let f : BadBlock → ℕ = λ c. tries_of c.found in
      work-more s l 0 0 (sum_by f (take i bs) + f (get_or bs i b)) (sought_among bs)
      (work-then s l 0 0 0 0 0 0 (sought_among (take i bs)) (tries_of (get_or bs i b).found) (sum_by f (take i bs) + f (get_or bs i b)) refl refl refl one two) (sum_by_more_le f bs i b inside)

tries-at_most : (found : Bool) → tries_of found ≤ 1
tries-at_most true = omega arith
tries-at_most false = omega arith

pub sought-few : (blocks : List BadBlock) → sought_among blocks ≤ length blocks
sought-few [] = omega arith
sought-few (b ∷ more) = omega (arith, sought-few more, tries-at_most b.found, sum_by-cons (λ (c : BadBlock). tries_of c.found) b more)

tries-one : (write : Bool) (m : Mended) (j : Job) (v : Visit) → j.write ≡ write → v.mended ≡ m → sought_among (bad_blocks (record { height = v.height; index = v.index }) (found_of write m)) ≡ lost_of m
tries-one write mended.Good j v here is = refl
tries-one true (mended.Copy k) j v here is = refl
tries-one false (mended.Copy k) j v here is = refl
tries-one true mended.Remade j v here is = refl
tries-one false mended.Remade j v here is = refl
tries-one true mended.Parity j v here is = refl
tries-one false mended.Parity j v here is = refl
tries-one write mended.Lost j v here is = refl

-- those that were noted and weren't found are the lost ones
pub sought-lost : (j : Job) (visits : List Visit) → sought_among (flat_map (bad_of j) visits) ≡ sum_by (λ v. lost_of v.mended) visits
sought-lost j [] = refl
sought-lost j (v ∷ more) =
    sum_by-append (λ (b : BadBlock). tries_of b.found) (bad_of j v) (flat_map (bad_of j) more)
    ∙ ap (λ (n : ℕ). n + sought_among (flat_map (bad_of j) more)) (tries-one j.write v.mended j v refl refl)
    ∙ ap (λ (n : ℕ). lost_of v.mended + n) (sought-lost j more)
    ∙ sym (sum_by-cons (λ (u : Visit). lost_of u.mended) v more)

-- ---- whether a hash block came back

back-one : (h : ℕ) → 0 < h → 1 ≤ back_of h mended.Parity
back-one zero some = absurd (omega (arith, some))
back-one (suc l) some = omega arith

-- a run that came to its end and tells of none
pub tells-none : {j : Job} {w x : RepairWorld} {old new : Option (List ℕ)} {fault : Option RepairFault} (h : ℕ) → HasRun j w x old new fault → TellsOfHash j h w x old new fault false
tells-none h run = record { run = run; came = λ told. absurd (false≢true told) }

-- a pass that didn't come to its end, of a result that hands its fault on
pub tells-from : {j : Job} {w x : RepairWorld} {old new : Option (List ℕ)} {fault : RepairFault} (h : ℕ) (r : Result Bool RepairFault) → IsErrAnd r (λ e. e ≡ fault) → HasRun j w x old new (Some fault) → TellsOfHash j h w x old new (result_err r) (told_of r)
tells-from h (Ok told) is run = absurd is
tells-from {j} {w} {x} {old} {new} h (Err e) is run = tells-none h (subst (λ (f : RepairFault). HasRun j w x old new (Some f)) (sym is) run)

pub tells-came : {j : Job} {w x : RepairWorld} {old new : Option (List ℕ)} {fault : RepairFault} (r : Result ParityOutcome RepairFault) → IsErrAnd r (λ e. e ≡ fault) → HasRun j w x old new (Some fault) → TellsOfHash j 1 w x old new (result_err r) (tree_told r)
tells-came (Ok came) is run = absurd is
tells-came {j} {w} {x} {old} {new} (Err e) is run = tells-none 1 (subst (λ (f : RepairFault). HasRun j w x old new (Some f)) (sym is) run)

-- a block that was put
pub tells-one : {j : Job} {w x : RepairWorld} {old new : Option (List ℕ)} (h i : ℕ) (bytes : List ℕ) → IsVisited j (visit h i mended.Parity bytes true) w x → Appends old new (visit_line j (visit h i mended.Parity bytes true)) → TellsOfHash j h w x old new None true
tells-one h i bytes here line = record { run = has-one here refl line; came = λ told some. omega (arith, back-one h some) }

pub tells-behind : {j : Job} {h : ℕ} {w x y : RepairWorld} {old new : Option (List ℕ)} {fault : Option RepairFault} {told : Bool} → IsWorldRead w x → TellsOfHash j h x y old new fault told → TellsOfHash j h w y old new fault told
tells-behind read a = record { run = has-behind read a.run; came = a.came }

tells-either : (tree back : Bool) (h : ℕ) → IsTrue (tree || back && nat_lt 0 h) → IsTrue tree ⊎ (IsTrue back × (0 < h))
tells-either tree back h is = elim (or_cases tree (back && nat_lt 0 h) is) [
  | inl before ↦ inl before
  | inr here ↦ inr ((and_parts back (nat_lt 0 h) here).0, ltb-true 0 h (and_parts back (nat_lt 0 h) here).1)
]

-- one more
pub tells-then : {j : Job} {h : ℕ} {w x y : RepairWorld} {old now new : Option (List ℕ)} {fault : Option RepairFault} (tree back all : Bool) → all ≡ (tree || back && nat_lt 0 h) → TellsOfHash j 1 w x old now None tree → TellsOfHash j h x y now new fault back
    → TellsOfHash j 1 w y old new fault all
tells-then {h = h} tree back all is a b =
    let f : Visit → ℕ = λ v. back_of v.height v.mended in
    record {
      run = has-then a.run b.run;
      came = λ told some.
          let both : hashes_back (a.run.visits ++ b.run.visits) ≡ hashes_back a.run.visits + hashes_back b.run.visits = sum_by-append f a.run.visits b.run.visits in
          elim (tells-either tree back h (subst IsTrue is told)) [
            | inl before ↦ (let one : 1 ≤ hashes_back a.run.visits = a.came before (omega arith) in omega (arith, one, both))
            | inr here ↦ (let one : 1 ≤ hashes_back b.run.visits = b.came here.0 here.1 in omega (arith, one, both))
          ];
    }

-- ---- passes

-- one, and then the blocks that it found nowhere
pub runs-pass : {j : Job} {l : Layout} {w x y : RepairWorld} {p q : Device} {old now new : Option (List ℕ)} {a b : BadBlocks} {fault : Option RepairFault} {told : Bool} (again : Bool) → (IsTrue again → IsTrue told) → (blocks : List BadBlock) → HasNoted j (IsFromUp j.tree.shape 0) w x old now a b None → a.asked ≡ true → a.blocks.items ≡ [] → blocks ≡ b.blocks.items → LeavesNoted (image_blocks j.tree.shape) 0 a b
    → LeavesWorld (pass_over j.tree.shape) nothing_due w x → TellsOfHash j 1 x y now new fault told → IsAskedWithin (parity_bill j.tree.shape l 0 0 (sought_among blocks)) x y p q → RunsInPasses j l 1 w y p q old new fault again
runs-pass {j = j} {l = l} {p = p} again written blocks noted on none are few leaves tells asked =
    let f : Visit → ℕ = λ v. lost_of v.mended in
    let all : blocks ≡ flat_map (bad_of j) noted.run.visits = are ∙ noted.noted refl on ∙ ap (λ (c : List BadBlock). c ++ flat_map (bad_of j) noted.run.visits) none in
    let lost : sought_among blocks ≡ sum_by f noted.run.visits = ap sought_among all ∙ sought-lost j noted.run.visits in
    record {
      run = has-then noted.run tells.run;
      passes = 1;
      sought = sought_among blocks;
      passes_few = omega arith;
      further = omega arith;
      due = λ more. omega (arith, tells.came (written more) (omega arith), sum_by-append (λ (v : Visit). back_of v.height v.mended) noted.run.visits tells.run.visits);
      lost = omega (arith, lost, sum_by-append f noted.run.visits tells.run.visits);
      sought_few = omega (arith, sought-few blocks, ap (λ (c : List BadBlock). length c) are, few, ap (λ (c : List BadBlock). length c) none);
      within = work-then j.tree.shape l 0 0 0 1 0 1 0 (sought_among blocks) (sought_among blocks) refl refl (zero-add (sought_among blocks)) (work-pass j.tree.shape l leaves p) asked;
    }

-- one that didn't come to its end
pub runs-not : {j : Job} {l : Layout} {w x : RepairWorld} {p : Device} {old new : Option (List ℕ)} {fault : RepairFault} → HasRun j w x old new (Some fault) → LeavesWorld (pass_over j.tree.shape) nothing_due w x → RunsInPasses j l 1 w x p p old new (Some fault) false
runs-not {j = j} {l = l} {p = p} run leaves = record {
  run = run;
  passes = 1;
  sought = 0;
  passes_few = omega arith;
  further = omega arith;
  due = λ more. absurd (false≢true more);
  lost = omega arith;
  sought_few = omega arith;
  within = work-pass j.tree.shape l leaves p;
}

pub runs-more : {j : Job} {l : Layout} {w x : RepairWorld} {p q : Device} {old new : Option (List ℕ)} {fault : Option RepairFault} {again : Bool} (m n : ℕ) → m ≤ n → RunsInPasses j l m w x p q old new fault again → RunsInPasses j l n w x p q old new fault again
runs-more m n few a = record { run = a.run; passes = a.passes; sought = a.sought; passes_few = omega (arith, a.passes_few, few); further = a.further; due = a.due; lost = a.lost; sought_few = a.sought_few; within = a.within }

-- one more
pub runs-then : {j : Job} {l : Layout} {w x y : RepairWorld} {p q r : Device} {old now new : Option (List ℕ)} {fault : Option RepairFault} {due again : Bool} (m n : ℕ) → m + 1 ≤ n → IsTrue due → RunsInPasses j l m w x p q old now None due → RunsInPasses j l 1 x y q r now new fault again → RunsInPasses j l n w y p r old new fault again
runs-then {j = j} {l = l} m n few due a b =
    let f : Visit → ℕ = λ v. lost_of v.mended in
    let both : hashes_back (a.run.visits ++ b.run.visits) ≡ hashes_back a.run.visits + hashes_back b.run.visits = sum_by-append (λ (v : Visit). back_of v.height v.mended) a.run.visits b.run.visits in
    let first : a.passes ≤ hashes_back a.run.visits = a.due due in
    record {
      run = has-then a.run b.run;
      passes = a.passes + b.passes;
      sought = a.sought + b.sought;
      passes_few = omega (arith, a.passes_few, b.passes_few, few);
      further = omega (arith, first, b.further, both);
      due = λ more. omega (arith, first, b.due more, both);
      lost = omega (arith, a.lost, b.lost, sum_by-append f a.run.visits b.run.visits);
      sought_few = omega (arith, a.sought_few, b.sought_few, times-sum a.passes b.passes (image_blocks j.tree.shape));
      within = work-then j.tree.shape l 0 0 0 a.passes b.passes (a.passes + b.passes) a.sought b.sought (a.sought + b.sought) refl refl refl a.within b.within;
    }

-- what holds of passes that didn't come to their end holds of the result that hands the fault on
pub runs-from : {j : Job} {l : Layout} {w x : RepairWorld} {p q : Device} {old new : Option (List ℕ)} {T : Type 0} {most : ℕ} {fault : RepairFault} (r : Result T RepairFault) → IsErrAnd r (λ e. e ≡ fault) → RunsInPasses j l most w x p q old new (Some fault) false → RunsInPasses j l most w x p q old new (result_err r) false
runs-from (Ok done) is run = absurd is
runs-from {j} {l} {w} {x} {p} {q} {old} {new} {T} {most} (Err e) is run = subst (λ (f : RepairFault). RunsInPasses j l most w x p q old new (Some f) false) (sym is) run

-- what holds of a pass that didn't come to its end holds of its result, which also says whether another pass is due
pub runs-told : {j : Job} {l : Layout} {w x : RepairWorld} {p q : Device} {old new : Option (List ℕ)} {most : ℕ} {fault : RepairFault} (r : Result ParityOutcome RepairFault) → IsErrAnd r (λ e. e ≡ fault) → RunsInPasses j l most w x p q old new (Some fault) false → RunsInPasses j l most w x p q old new (result_err r) (tree_told r)
runs-told (Ok told) is run = absurd is
runs-told {j} {l} {w} {x} {p} {q} {old} {new} {most} (Err e) is run = subst (λ (f : RepairFault). RunsInPasses j l most w x p q old new (Some f) false) (sym is) run

-- none is due any more
pub runs-end : {j : Job} {l : Layout} {w x : RepairWorld} {p q : Device} {old new : Option (List ℕ)} {fault : Option RepairFault} {again : Bool} (m n : ℕ) → m ≤ n → RunsInPasses j l m w x p q old new fault again → RunsInPasses j l n w x p q old new fault false
runs-end m n few a = record { run = a.run; passes = a.passes; sought = a.sought; passes_few = omega (arith, a.passes_few, few); further = a.further; due = λ more. absurd (false≢true more); lost = a.lost; sought_few = a.sought_few; within = a.within }

-- the passes of a plan
pub repairs-passes : {l : Layout} {w w' : RepairWorld} {p p' : Device} {old new : Option (List ℕ)} {fault : Option RepairFault} (plan : Plan) (j : Job) → j ≡ job_of plan true → LiesOn plan.tree.shape w
    → RunsInPasses j l (1 + l.hash_blocks) w w' p p' old new fault false → RepairsInPasses plan l w w' p p' old new fault
repairs-passes {l} {w} {w'} {p} {p'} {old} {new} {fault} plan j same lies runs =
    let a = subst (λ (x : Job). RunsInPasses x l (1 + l.hash_blocks) w w' p p' old new fault false) same runs in
    record {
      repairs = record { lies = lies; run = a.run };
      passes = a.passes;
      sought = a.sought;
      passes_few = a.passes_few;
      further = a.further;
      lost = a.lost;
      sought_few = a.sought_few;
      within = a.within;
    }
