use Rattle.std.proofs.Common.{◌≡◌, ◌-◌, ◌+◌, ◌*◌, ◌/◌, ◌<◌, ℕ, suc, sym, arith, subst, add-one}
use Rattle.std.proofs.lemmas.Result.{err_from_is_err_and}
use Rattle.block_device.specs.Call.{DeviceDoes}
use Rattle.block_device.specs.Device.{Device}
use Rattle.tree_path.specs.Path.{PathRecord}
use Rattle.tree_shape.specs.Shape.{ShapeRecord}
use Rattle.tree_path.specs.Steps.{HasReadAtMost, IsDown, steps}
use Rattle.verity_format.proofs.lemmas.DeviceLemmas.{failed-then}
use Rattle.tree_path.proofs.lemmas.AtMostLemmas.{at_most-fewer, at_most-more, at_most-none}
use Rattle.tree_path.proofs.lemmas.PathLemmas.{down-bad, down-good, down-none, down-read, kept-unloaded}
use Rattle.tree_path.proofs.lemmas.ReadCallLemmas.{reads-none, reads-then}
use Rattle.tree_path.proofs.path.TreePath.descend.Goals as goal

pub levels-init : goal.levels-init
levels-init g c = record {
  down = down-none c.args.self.now (g.H.BlockDev.state c.args.device.now) c.args.index c.args.from;
  low = c.requires.order;
  high = omega arith;
  asked = at_most-none (g.H.BlockDev.state c.args.device.now) (c.args.self.now.shape.hash_block / 512) c.args.from;
  calls = reads-none (DeviceDoes g.H.BlockDev.state g.H.BlockDev.does) c.args.device.now;
}

pub returns-then-not-branch-clause-ok : goal.returns-then-not-branch-clause-ok
returns-then-not-branch-clause-ok g c =
    let l : ℕ = c.levels.level - 1 in
    let level : c.levels.level ≡ suc l = omega (arith, c.levels-test.true) in
    let next : suc l ≡ l + 1 = sym (add-one l) in
    let old : PathRecord = c.args.self.now in
    let mid : PathRecord = c.levels.self in
    let new : PathRecord = c.load.new.self in
    let d : Device = g.H.BlockDev.state c.args.device.now in
    let dm : Device = g.H.BlockDev.state c.levels.device in
    let d' : Device = g.H.BlockDev.state c.load.new.device in
    let low : l < c.args.from = omega (arith, level, c.levels.invariant.high) in
    let down : IsDown (steps old mid d dm c.args.index c.args.from) (suc l) (suc l) = subst (λ (n : ℕ). IsDown (steps old mid d dm c.args.index c.args.from) n n) level c.levels.invariant.down in
    record {
      between = (omega (arith, c.levels-test.true), low);
      down = subst (λ (n : ℕ). IsDown (steps old new d d' c.args.index c.args.from) n l) next (down-read old mid new d dm d' c.args.index c.args.from l low down c.in_ok-load.field-0 c.in_ok-load.ensures.ok);
      bad = down-bad old mid new d dm d' c.args.index c.args.from l low down c.in_ok-load.field-0 c.in_ok-load.ensures.ok c.if-not-branch.true;
    }

pub levels-preserved : goal.levels-preserved
levels-preserved g c =
    let l : ℕ = c.levels.level - 1 in
    let level : c.levels.level ≡ suc l = omega (arith, c.levels-test.true) in
    let old : PathRecord = c.args.self.now in
    let mid : PathRecord = c.levels.self in
    let new : PathRecord = c.load.new.self in
    let d : Device = g.H.BlockDev.state c.args.device.now in
    let dm : Device = g.H.BlockDev.state c.levels.device in
    let d' : Device = g.H.BlockDev.state c.load.new.device in
    let low : l < c.args.from = omega (arith, level, c.levels.invariant.high) in
    let down : IsDown (steps old mid d dm c.args.index c.args.from) (suc l) (suc l) = subst (λ (n : ℕ). IsDown (steps old mid d dm c.args.index c.args.from) n n) level c.levels.invariant.down in
    record {
      down = down-good old mid new d dm d' c.args.index c.args.from l low down c.in_ok-load.field-0 c.in_ok-load.ensures.ok c.if-not-branch.false;
      low = omega (arith, c.levels-test.true);
      high = omega (arith, low);
      asked =
          let n : ℕ = old.shape.hash_block / 512 in
          let here : HasReadAtMost dm n d' = subst (λ (s : ShapeRecord). HasReadAtMost dm (s.hash_block / 512) d') c.levels.invariant.down.same.shape_is c.load.ensures.asked in
          at_most-more d dm d' n c.args.from l low (subst (λ (k : ℕ). HasReadAtMost d ((c.args.from - k) * n) dm) level c.levels.invariant.asked) here;
      calls = reads-then (DeviceDoes g.H.BlockDev.state g.H.BlockDev.does) c.args.device.now c.levels.device c.load.new.device c.levels.invariant.calls c.load.ensures.calls;
    }

pub returns-in_err-load-clause-asked : goal.returns-in_err-load-clause-asked
returns-in_err-load-clause-asked g c =
    let l : ℕ = c.levels.level - 1 in
    let level : c.levels.level ≡ suc l = omega (arith, c.levels-test.true) in
    let old : PathRecord = c.args.self.now in
    let d : Device = g.H.BlockDev.state c.args.device.now in
    let dm : Device = g.H.BlockDev.state c.levels.device in
    let d' : Device = g.H.BlockDev.state c.load.new.device in
    let n : ℕ = old.shape.hash_block / 512 in
    let low : l < c.args.from = omega (arith, level, c.levels.invariant.high) in
    let here : HasReadAtMost dm n d' = subst (λ (s : ShapeRecord). HasReadAtMost dm (s.hash_block / 512) d') c.levels.invariant.down.same.shape_is c.load.ensures.asked in
    let all : HasReadAtMost d ((c.args.from - l) * n) d' = at_most-more d dm d' n c.args.from l low (subst (λ (k : ℕ). HasReadAtMost d ((c.args.from - k) * n) dm) level c.levels.invariant.asked) here in
    at_most-fewer d d' n (c.args.from - l) (c.args.from - c.args.to) (omega (arith, c.levels-test.true)) all

pub returns-then-not-branch-clause-asked : goal.returns-then-not-branch-clause-asked
returns-then-not-branch-clause-asked g c =
    let l : ℕ = c.levels.level - 1 in
    let level : c.levels.level ≡ suc l = omega (arith, c.levels-test.true) in
    let old : PathRecord = c.args.self.now in
    let d : Device = g.H.BlockDev.state c.args.device.now in
    let dm : Device = g.H.BlockDev.state c.levels.device in
    let d' : Device = g.H.BlockDev.state c.load.new.device in
    let n : ℕ = old.shape.hash_block / 512 in
    let low : l < c.args.from = omega (arith, level, c.levels.invariant.high) in
    let here : HasReadAtMost dm n d' = subst (λ (s : ShapeRecord). HasReadAtMost dm (s.hash_block / 512) d') c.levels.invariant.down.same.shape_is c.load.ensures.asked in
    let all : HasReadAtMost d ((c.args.from - l) * n) d' = at_most-more d dm d' n c.args.from l low (subst (λ (k : ℕ). HasReadAtMost d ((c.args.from - k) * n) dm) level c.levels.invariant.asked) here in
    at_most-fewer d d' n (c.args.from - l) (c.args.from - c.args.to) (omega (arith, c.levels-test.true)) all

pub returns-clause-asked : goal.returns-clause-asked
returns-clause-asked g c =
    at_most-fewer (g.H.BlockDev.state c.args.device.now) (g.H.BlockDev.state c.levels.device) (c.args.self.now.shape.hash_block / 512) (c.args.from - c.levels.level) (c.args.from - c.args.to)
    (omega (arith, c.levels.invariant.low)) c.levels.invariant.asked

pub returns-in_err-load-clause-fault : goal.returns-in_err-load-clause-fault
returns-in_err-load-clause-fault g c =
    let p = err_from_is_err_and c.from_residual.result c.from_residual.ensures.1 in
    rw p.1
    (failed-then (g.H.BlockDev.state c.args.device.now) (g.H.BlockDev.state c.levels.device) (g.H.BlockDev.state c.load.new.device) c.levels.invariant.down.full.failures c.in_err-load.ensures.fault.fault.failed)

pub returns-in_err-load-clause-kept : goal.returns-in_err-load-clause-kept
returns-in_err-load-clause-kept g c =
    let l : ℕ = c.levels.level - 1 in
    let low : l < c.args.from = omega (arith, c.levels-test.true, c.levels.invariant.high) in
    let p = err_from_is_err_and c.from_residual.result c.from_residual.ensures.1 in
    rw p.1
    (kept-unloaded c.args.self.now c.levels.self c.load.new.self (g.H.BlockDev.state c.args.device.now) (g.H.BlockDev.state c.levels.device) (g.H.BlockDev.state c.load.new.device) c.args.index c.args.from
    c.levels.level c.levels.level l low c.levels.invariant.down c.in_err-load.ensures.fault)

pub returns-clause-calls : goal.returns-clause-calls
returns-clause-calls g c = c.levels.invariant.calls

pub returns-then-not-branch-clause-calls : goal.returns-then-not-branch-clause-calls
returns-then-not-branch-clause-calls g c = reads-then (DeviceDoes g.H.BlockDev.state g.H.BlockDev.does) c.args.device.now c.levels.device c.load.new.device c.levels.invariant.calls c.load.ensures.calls

pub returns-in_err-load-clause-calls : goal.returns-in_err-load-clause-calls
returns-in_err-load-clause-calls g c = reads-then (DeviceDoes g.H.BlockDev.state g.H.BlockDev.does) c.args.device.now c.levels.device c.load.new.device c.levels.invariant.calls c.load.ensures.calls
