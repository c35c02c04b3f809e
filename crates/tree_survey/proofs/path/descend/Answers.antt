use Rattle.std.proofs.Common.{◌≡◌, ◌-◌, ◌+◌, ◌*◌, ◌/◌, ◌<◌, ℕ, suc, sym, arith, subst, true, false, add-one, rules}
use Rattle.block_device.specs.Device.{Device}
use Rattle.tree_shape.specs.Shape.{ShapeRecord}
use Rattle.tree_path.specs.Path.{PathRecord}
use Rattle.tree_path.specs.Steps.{HasReadAtMost, IsDown, IsStepLoaded, steps}
use Rattle.tree_path.proofs.lemmas.AtMostLemmas.{at_most-fewer, at_most-more}
use Rattle.tree_path.proofs.lemmas.PathLemmas.{down-bad, down-good, down-read}
use Rattle.tree_survey.proofs.FailingLemmas.{over-full, over-then}
use Rattle.tree_survey.proofs.DescentLemmas.{cut-off}
use Rattle.tree_survey.proofs.path.descend.Goals as goal

-- one hash block more was asked for
asked-more : (old mid : PathRecord) (d dm d' : Device) (i from n l : ℕ) → n ≡ suc l → l < from → IsDown (steps old mid d dm i from) n n → HasReadAtMost d ((from - n) * (old.shape.hash_block / 512)) dm
    → HasReadAtMost dm (mid.shape.hash_block / 512) d' → HasReadAtMost d ((from - l) * (old.shape.hash_block / 512)) d'
asked-more old mid d dm d' i from n l next low down asked one =
    at_most-more d dm d' (old.shape.hash_block / 512) from l low (subst (λ (k : ℕ). HasReadAtMost d ((from - k) * (old.shape.hash_block / 512)) dm) next asked)
    (subst (λ (s : ShapeRecord). HasReadAtMost dm (s.hash_block / 512) d') down.same.shape_is one)

pub returns-in-Some-false-clause-over : goal.returns-in-Some-false-clause-over
returns-in-Some-false-clause-over g c = over-then (over-full _ c.levels.invariant.down.full) c.load.ensures.over

pub returns-in-None-clause-over : goal.returns-in-None-clause-over
returns-in-None-clause-over g c = over-then (over-full _ c.levels.invariant.down.full) c.load.ensures.over

pub returns-clause-over : goal.returns-clause-over
returns-clause-over g c = over-full _ c.levels.invariant.down.full

pub returns-in-Some-false-clause-asked : goal.returns-in-Some-false-clause-asked
returns-in-Some-false-clause-asked g c =
    let l : ℕ = c.levels.level - 1 in
    let level : c.levels.level ≡ suc l = omega (arith, c.levels-test.true) in
    let d : Device = g.H.BlockDev.state c.args.device.now in
    let dm : Device = g.H.BlockDev.state c.levels.device in
    let d' : Device = g.H.BlockDev.state c.load.new.device in
    at_most-fewer d d' (c.args.path.now.shape.hash_block / 512) (c.args.from - l) c.args.from (omega arith)
    (asked-more c.args.path.now c.levels.path d dm d' c.args.index c.args.from c.levels.level l level (omega (arith, level, c.levels.invariant.high)) c.levels.invariant.down c.levels.invariant.asked c.load.ensures.asked)

pub returns-in-None-clause-asked : goal.returns-in-None-clause-asked
returns-in-None-clause-asked g c =
    let l : ℕ = c.levels.level - 1 in
    let level : c.levels.level ≡ suc l = omega (arith, c.levels-test.true) in
    let d : Device = g.H.BlockDev.state c.args.device.now in
    let dm : Device = g.H.BlockDev.state c.levels.device in
    let d' : Device = g.H.BlockDev.state c.load.new.device in
    at_most-fewer d d' (c.args.path.now.shape.hash_block / 512) (c.args.from - l) c.args.from (omega arith)
    (asked-more c.args.path.now c.levels.path d dm d' c.args.index c.args.from c.levels.level l level (omega (arith, level, c.levels.invariant.high)) c.levels.invariant.down c.levels.invariant.asked c.load.ensures.asked)

pub returns-clause-asked : goal.returns-clause-asked
returns-clause-asked g c =
    at_most-fewer (g.H.BlockDev.state c.args.device.now) (g.H.BlockDev.state c.levels.device) (c.args.path.now.shape.hash_block / 512) (c.args.from - c.levels.level) c.args.from (omega arith) c.levels.invariant.asked

pub returns-in-Some-false-clause-ends : goal.returns-in-Some-false-clause-ends
returns-in-Some-false-clause-ends g c =
    let l : ℕ = c.levels.level - 1 in
    let level : c.levels.level ≡ suc l = omega (arith, c.levels-test.true) in
    let next : suc l ≡ l + 1 = sym (add-one l) in
    let old : PathRecord = c.args.path.now in
    let mid : PathRecord = c.levels.path in
    let new : PathRecord = c.load.new.path in
    let d : Device = g.H.BlockDev.state c.args.device.now in
    let dm : Device = g.H.BlockDev.state c.levels.device in
    let d' : Device = g.H.BlockDev.state c.load.new.device in
    let low : l < c.args.from = omega (arith, level, c.levels.invariant.high) in
    let down : IsDown (steps old mid d dm c.args.index c.args.from) (suc l) (suc l) = subst (λ (n : ℕ). IsDown (steps old mid d dm c.args.index c.args.from) n n) level c.levels.invariant.down in
    let good = c.in-Some-false.field-0 in
    let is : good ≡ false = search rules in
    let loaded : IsStepLoaded (steps mid new dm d' c.args.index l) good = rw c.in-Some-false.is at c.load.ensures.ends in
    record {
      between = (omega arith, low);
      down = subst (λ (n : ℕ). IsDown (steps old new d d' c.args.index c.args.from) n l) next (down-read old mid new d dm d' c.args.index c.args.from l low down good loaded);
      bad = down-bad old mid new d dm d' c.args.index c.args.from l low down good loaded is;
    }

pub returns-in-None-clause-ends : goal.returns-in-None-clause-ends
returns-in-None-clause-ends g c =
    let l : ℕ = c.levels.level - 1 in
    let level : c.levels.level ≡ suc l = omega (arith, c.levels-test.true) in
    let old : PathRecord = c.args.path.now in
    let mid : PathRecord = c.levels.path in
    let new : PathRecord = c.load.new.path in
    let d : Device = g.H.BlockDev.state c.args.device.now in
    let dm : Device = g.H.BlockDev.state c.levels.device in
    let d' : Device = g.H.BlockDev.state c.load.new.device in
    let low : l < c.args.from = omega (arith, level, c.levels.invariant.high) in
    let down : IsDown (steps old mid d dm c.args.index c.args.from) (suc l) (suc l) = subst (λ (n : ℕ). IsDown (steps old mid d dm c.args.index c.args.from) n n) level c.levels.invariant.down in
    cut-off old mid new d dm d' c.args.index c.args.from l low down (rw c.in-None.is at c.load.ensures.ends).0 c.load.ensures.over (rw c.in-None.is at c.load.ensures.ends).1

pub levels-preserved : goal.levels-preserved
levels-preserved g c =
    let l : ℕ = c.levels.level - 1 in
    let level : c.levels.level ≡ suc l = omega (arith, c.levels-test.true) in
    let old : PathRecord = c.args.path.now in
    let mid : PathRecord = c.levels.path in
    let new : PathRecord = c.load.new.path in
    let d : Device = g.H.BlockDev.state c.args.device.now in
    let dm : Device = g.H.BlockDev.state c.levels.device in
    let d' : Device = g.H.BlockDev.state c.load.new.device in
    let low : l < c.args.from = omega (arith, level, c.levels.invariant.high) in
    let down : IsDown (steps old mid d dm c.args.index c.args.from) (suc l) (suc l) = subst (λ (n : ℕ). IsDown (steps old mid d dm c.args.index c.args.from) n n) level c.levels.invariant.down in
    let good = c.in-Some-true.field-0 in
    let is : good ≡ true = search rules in
    let loaded : IsStepLoaded (steps mid new dm d' c.args.index l) good = rw c.in-Some-true.is at c.load.ensures.ends in
    record {
      down = down-good old mid new d dm d' c.args.index c.args.from l low down good loaded is;
      high = omega (arith, low);
      asked = asked-more old mid d dm d' c.args.index c.args.from c.levels.level l level low c.levels.invariant.down c.levels.invariant.asked c.load.ensures.asked;
    }

pub returns-clause-ends : goal.returns-clause-ends
returns-clause-ends g c =
    let none : c.levels.level ≡ 0 = omega (arith, c.levels-test.false) in
    subst (λ (n : ℕ). IsDown (steps c.args.path.now c.levels.path (g.H.BlockDev.state c.args.device.now) (g.H.BlockDev.state c.levels.device) c.args.index c.args.from) n n) none c.levels.invariant.down
