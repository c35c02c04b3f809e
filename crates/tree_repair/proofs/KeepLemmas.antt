-- A block that was written, and is read back.
use Rattle.std.proofs.Common.{◌≡◌, ◌≤◌, ◌<◌, ◌+◌, ◌/◌, ℕ, zero, suc, Bool, true, false, IsTrue, ap, List, [], ◌∷◌, Option, None, refl, sym, ◌∙◌, subst, arith, inl, inr, add-one}
use Rattle.block_device.specs.Device.{Device}
use Rattle.tree_shape.specs.Shape.{ShapeRecord, IsShape, ancestor, level_blocks}
use Rattle.tree_shape.proofs.lemmas.ShapeFactLemmas.{ancestor-lt, ancestor-none}
use Rattle.tree_path.specs.Steps.{HasReadAtMost}
use Rattle.tree_repair.specs.declared.bad.BadBlocks.{BadBlocks}
use Rattle.tree_repair.specs.AccessBudgets.{Bill, LeavesBlock, LeavesChecked, LeavesVisit, LeavesWorld, block_read, checks_over, data_over, hash_over, hash_up_to, left_of, made_over, nothing_due, sectors_over, visits_over}
use Rattle.tree_repair.specs.Coverage.{IsLookedAt}
use Rattle.tree_repair.specs.Flaws.{HappensIn, IsNotRead, IsNotReadBack, IsReadOr}
use Rattle.tree_repair.specs.Parity.{IsGoodNow}
use Rattle.tree_repair.specs.Noting.{kept_or}
use Rattle.tree_repair.specs.Passes.{HasNoted}
use Rattle.tree_repair.specs.Sources.{IsBad, wanted}
use Rattle.tree_path.specs.Path.{PathRecord, digest_on}
use Rattle.tree_survey.specs.Surveys.{IsWay}
use Rattle.std.proofs.lemmas.Bool.{false≢true, true≢false}
use Rattle.tree_repair.specs.Runs.{HasRun, Job, VisitsAll, Visit, sector_at, size_at}
use Rattle.tree_repair.specs.Worlds.{IsWorldRead, RepairWorld, repair_world}
use Rattle.tree_repair.proofs.AskedLemmas.{next-here}
use Rattle.verity_format.proofs.lemmas.DeviceLemmas.{only_read-none}
use Rattle.tree_repair.specs.ParityBounds.{TellsOfHash}
use Rattle.tree_path.specs.Unused.{digests_in}
use Rattle.tree_repair.specs.declared.fault.RepairFault.{RepairFault}
use Rattle.verity_format.specs.Blocks.{IsOnlyRead}
use Rattle.tree_repair.proofs.BillLemmas.{leaves-end, leaves-more, leaves-none, leaves-read, leaves-then}
use Rattle.tree_repair.proofs.FlawLemmas.{flaws-left, happens-here, happens-right}
use Rattle.tree_repair.proofs.OverLemmas.{data-more, hash-more, left-next}
use Rattle.tree_repair.proofs.RunLemmas.{world-then}

-- ---- what it asks

block-back : (s : ShapeRecord) → IsShape s → (h i : ℕ) → i < s.blocks → (w x : RepairWorld) → LeavesWorld (block_read s h) nothing_due w x → LeavesBlock (made_over s h) s h (ancestor s h i) w x
block-back s valid zero i inside w x read =
    let k : ℕ = ancestor s zero i in
    let low : k < digests_in s zero = omega (arith, ancestor-none s valid i, inside) in
    leaves-more (made_over s zero (left_of s zero k)) (made_over s zero (left_of s zero (k + 1))) read
    (record { data_reads = omega (arith, next-here s valid zero k low); hash_reads = omega arith; data_once = omega arith; hash_once = omega arith })
block-back s valid (suc l) i inside w x read =
    let k : ℕ = ancestor s (suc l) i in
    let low : k < level_blocks s l = subst (λ (n : ℕ). ancestor s n i < level_blocks s l) (add-one l) (ancestor-lt s valid l i inside) in
    leaves-more (made_over s (suc l) (left_of s (suc l) k)) (made_over s (suc l) (left_of s (suc l) (k + 1))) read
    (record { data_reads = omega arith; hash_reads = omega (arith, next-here s valid (suc l) k low); data_once = omega arith; hash_once = omega arith })

pub unread : (s : ShapeRecord) (h : ℕ) (w : RepairWorld) → LeavesWorld (block_read s h) nothing_due w w
unread s h w = leaves-end (leaves-none (block_read s h) w)

pub data-back : (s : ShapeRecord) (h : ℕ) → h ≡ 0 → (w : RepairWorld) (d' : Device) → IsOnlyRead w.data_dev d' → HasReadAtMost w.data_dev (size_at s h / 512) d'
    → LeavesWorld (block_read s h) nothing_due w (repair_world d' w.hash_dev w.data_copies w.hash_copies)
data-back s zero none w d' read asked =
    leaves-read (s.data_block / 512) 0 w (repair_world d' w.hash_dev w.data_copies w.hash_copies) (record { data_read = read; hash_read = only_read-none w.hash_dev }) refl refl asked (omega arith)
data-back s (suc l) none w d' read asked = absurd (omega (arith, none))

pub hash-back : (s : ShapeRecord) (h l : ℕ) → h ≡ suc l → (w : RepairWorld) (d' : Device) → IsOnlyRead w.hash_dev d' → HasReadAtMost w.hash_dev (size_at s h / 512) d'
    → LeavesWorld (block_read s h) nothing_due w (repair_world w.data_dev d' w.data_copies w.hash_copies)
hash-back s zero l some w d' read asked = absurd (omega (arith, some))
hash-back s (suc m) l some w d' read asked =
    leaves-read 0 (s.hash_block / 512) w (repair_world w.data_dev d' w.data_copies w.hash_copies) (record { data_read = only_read-none w.data_dev; hash_read = read }) refl refl (omega arith) asked

module _ (s : ShapeRecord) (valid : IsShape s) (h i : ℕ) where
  abbrev at_here : ℕ
  at_here = left_of s h (ancestor s h i)

  abbrev at_behind : ℕ
  at_behind = left_of s h (ancestor s h i + 1)

  fewer-behind : at_behind ≤ at_here
  fewer-behind = omega (arith, left-next s h (ancestor s h i))

  -- what may be read after the visit, and before the block is read back
  abbrev unchecked : Bill
  unchecked = record (visits_over s h at_behind) { data_reads = sectors_over s zero at_behind + data_over s h at_here; hash_reads = hash_up_to s h at_behind + hash_over s h at_here }

  pub leaves-checked : i < s.blocks → (w x y : RepairWorld) → LeavesVisit s h i w x → LeavesWorld (block_read s h) nothing_due x y → LeavesChecked s h i w y
  leaves-checked inside w x y visited back =
      leaves-then
      (leaves-more (checks_over s h at_here) unchecked visited (record { data_reads = omega arith; hash_reads = omega arith; data_once = omega arith; hash_once = omega arith }))
      (leaves-more unchecked (checks_over s h at_behind) (block-back s valid h i inside x y back) (record { data_reads = omega arith; hash_reads = omega arith; data_once = omega arith; hash_once = omega arith }))

  -- it wasn't
  pub leaves-unchecked : (w x : RepairWorld) → LeavesVisit s h i w x → LeavesChecked s h i w x
  leaves-unchecked w x visited =
      leaves-more (checks_over s h at_here) (checks_over s h at_behind) visited
      (record {
        data_reads = omega (arith, data-more s valid h at_behind at_here fewer-behind);
        hash_reads = omega (arith, hash-more s valid h at_behind at_here fewer-behind);
        data_once = omega arith;
        hash_once = omega arith;
      })

-- ---- a run, and a reading after it

pub runs-before : (j : Job) (vs : List Visit) (a b c : RepairWorld) → VisitsAll j vs a b → IsWorldRead b c → VisitsAll j vs a c
runs-before j [] a b c runs read = world-then a b c runs read
runs-before j (v ∷ more) a b c (x, (y, (before, (here, rest)))) read = (x, (y, (before, (here, runs-before j more y b c rest read))))

abbrev pub has-kept : {j : Job} {a b c : RepairWorld} {old new : Option (List ℕ)} {fault : Option RepairFault} → HasRun j a b old new fault → IsWorldRead b c → HasRun j a c old new fault
has-kept {j} {a} {b} {c} run read = record { visits = run.visits; runs = runs-before j run.visits a b c run.runs read; done = run.done; printed = run.printed; cause = run.cause }

pub tells-kept : {j : Job} {h : ℕ} {a b c : RepairWorld} {old new : Option (List ℕ)} {fault : Option RepairFault} {told : Bool} → TellsOfHash j h a b old new fault told → IsWorldRead b c → TellsOfHash j h a c old new fault told
tells-kept tells read = record { run = has-kept tells.run read; came = tells.came }

looked-kept : (j : Job) (h i : ℕ) (vs : List Visit) (a b c : RepairWorld) → IsLookedAt j h i vs a b → IsWorldRead b c → IsLookedAt j h i vs a c
looked-kept j h i vs a b c (inl seen) read = inl seen
looked-kept j h i vs a b c (inr by) read = inr (record {
  earlier = by.earlier;
  later = by.later;
  are = by.are;
  a = by.a;
  b = by.b;
  before = by.before;
  read = by.read;
  behind = runs-before j by.later by.b b c by.behind read;
  beside = by.beside;
  same = by.same;
  cut = by.cut;
})

-- a block was read back, or not
noted-back : {j : Job} {Due : ℕ → ℕ → Type 0} {w x y : RepairWorld} {old new : Option (List ℕ)} {a b : BadBlocks} (kept : Bool) → HasNoted j Due w x old new a b None → IsWorldRead x y → (kept ≡ false → IsNotReadBack j x y)
    → HasNoted j Due w y old new a (kept_or kept b) None
noted-back {j} {Due} {w} {x} {y} {old} {new} {a} {b} true p read lost = record {
  run = has-kept p.run read;
  asked = p.asked;
  noted = p.noted;
  looked = λ end h i due. looked-kept j h i p.run.visits w x y (p.looked end h i due) read;
  only = p.only;
  once = p.once;
  any = p.any;
  passed = p.passed;
  flaws = λ end. flaws-left j [] w x y a b (p.flaws end) read;
}
noted-back {j} {Due} {w} {x} {y} {old} {new} {a} {b} false p read lost =
    let here : HappensIn j (IsNotReadBack j) w y = happens-right j (IsNotReadBack j) p.run.visits w x y p.run.runs (happens-here j (IsNotReadBack j) x y (lost refl)) in
    record {
      run = has-kept p.run read;
      asked = p.asked;
      noted = p.noted;
      looked = λ end h i due. looked-kept j h i p.run.visits w x y (p.looked end h i due) read;
      only = p.only;
      once = p.once;
      any = λ end clean. absurd (true≢false clean);
      passed = p.passed;
      flaws = λ end. record { corrupt = λ yes. inr (inr here); skipped = (flaws-left j [] w x y a b (p.flaws end) read).skipped; unkept = λ yes. inr here };
    }

pub noted-kept : {j : Job} {Due : ℕ → ℕ → Type 0} {w x y : RepairWorld} {old new : Option (List ℕ)} {a b c : BadBlocks} (kept : Bool) → HasNoted j Due w x old new a b None → IsWorldRead x y → c ≡ kept_or kept b → (kept ≡ false → IsNotReadBack j x y)
    → HasNoted j Due w y old new a c None
noted-kept {j} {Due} {w} {x} {y} {old} {new} {a} {b} {c} kept p read is lost = subst (λ (z : BadBlocks). HasNoted j Due w y old new a z None) (sym is) (noted-back kept p read lost)

-- which changes none of the blocks noted
pub kept-blocks : (kept : Bool) (b : BadBlocks) → (kept_or kept b).blocks.items ≡ b.blocks.items
kept-blocks true b = refl
kept-blocks false b = refl

-- so it was, if none is noted as not read back
pub kept-true : (kept : Bool) (b c : BadBlocks) → c ≡ kept_or kept b → c.unkept ≡ false → IsTrue kept
kept-true true b c is none = refl
kept-true false b c is none = absurd (true≢false (sym (ap (λ (z : BadBlocks). z.unkept) is) ∙ none))

-- ---- whether a block is read with its digest

module _ (j : Job) (h i : ℕ) where
  pub read-by : (w w' : RepairWorld) (r : Bool) → (IsTrue r → IsGoodNow j h i w) → (r ≡ false → IsNotRead j h i w w') → IsReadOr j h i true w w' r
  read-by w w' true good lost = λ due. good refl
  read-by w w' false good lost = lost refl

  pub read-due : (due : Bool) (w w' : RepairWorld) (r : Bool) → IsReadOr j h i true w w' r → IsReadOr j h i due w w' r
  read-due due w w' true good = λ is. good refl
  read-due due w w' false lost = lost

  pub read-good : (due : Bool) (w w' : RepairWorld) (r : Bool) → IsReadOr j h i due w w' r → IsTrue r → IsTrue due → IsGoodNow j h i w
  read-good due w w' true good is = good
  read-good due w w' false lost is = absurd (false≢true is)

  pub read-lost : (due : Bool) (w w' : RepairWorld) (r : Bool) → IsReadOr j h i due w w' r → r ≡ false → IsNotRead j h i w w'
  read-lost due w w' true good is = absurd (true≢false is)
  read-lost due w w' false lost is = lost

pub lost-data : (j : Job) (p : PathRecord) (h i : ℕ) (d d' e : Device) (cs es : List Device) → i < j.tree.shape.blocks → IsWay j.tree i h p → h ≡ 0
    → IsBad d (sector_at j.tree.shape h i) (wanted j.tree.salt (digest_on p i h) (size_at j.tree.shape h / 512)) d' → IsWorldRead (repair_world d e cs es) (repair_world d' e cs es)
    → IsNotRead j h i (repair_world d e cs es) (repair_world d' e cs es)
lost-data j p zero i d d' e cs es inside way none bad read = record { p = p; inside = inside; way = way; bad = bad; read = read }
lost-data j p (suc h) i d d' e cs es inside way none bad read = absurd (omega (arith, none))

pub lost-hash : (j : Job) (p : PathRecord) (h i l : ℕ) (d d' e : Device) (cs es : List Device) → i < j.tree.shape.blocks → IsWay j.tree i h p → h ≡ suc l
    → IsBad d (sector_at j.tree.shape h i) (wanted j.tree.salt (digest_on p i h) (size_at j.tree.shape h / 512)) d' → IsWorldRead (repair_world e d es cs) (repair_world e d' es cs)
    → IsNotRead j h i (repair_world e d es cs) (repair_world e d' es cs)
lost-hash j p zero i l d d' e cs es inside way some bad read = absurd (omega (arith, some))
lost-hash j p (suc h) i l d d' e cs es inside way some bad read = record { p = p; inside = inside; way = way; bad = bad; read = read }
