use Rattle.std.proofs.Common.{◌≡◌, ◌+◌, ◌-◌, ℕ, suc, inl, inr, ap, sym, subst, add-one, arith}
use Rattle.std.proofs.lemmas.Bool.{true≢false}
use Rattle.block_device.specs.Call.{DeviceDoes}
use Rattle.tree_shape.specs.Shape.{ancestor}
use Rattle.tree_shape.proofs.lemmas.ShapeFactLemmas.{levels-few}
use Rattle.tree_repair.specs.AccessBudgets.{LeavesWorld}
use Rattle.tree_path.specs.Unused.{digests_in}
use Rattle.tree_repair.specs.Remaking.{IsNowhereFrom, lost_hash}
use Rattle.tree_repair.specs.Runs.{size_at}
use Rattle.tree_repair.proofs.AskedLemmas.{tried-all, tried-at, untried_of}
use Rattle.tree_repair.proofs.BillLemmas.{leaves-none}
use Rattle.tree_repair.proofs.MakeLemmas.{both-none, both-then, nowhere-next, nowhere-none, over-before, unlike-before}
use Rattle.tree_repair.proofs.RepairCallLemmas.{both-more, both-nothing}
use Rattle.tree_repair.proofs.remaking.remake.Goals as goal

pub overflow_add-from : goal.overflow_add-from
overflow_add-from g c = omega (arith, c.requires.level, levels-few c.args.sought.now.repair.now.shape c.requires.have.valid)

pub overflow_add-steps : goal.overflow_add-steps
overflow_add-steps g c = omega (arith, c.requires.level, levels-few c.args.sought.now.repair.now.shape c.requires.have.valid)

pub returns-then-is_made-clause-asked : goal.returns-then-is_made-clause-asked
returns-then-is_made-clause-asked g c =
    let s = c.args.sought.now.repair.now.shape in
    tried-all s c.requires.have.valid c.args.level c.args.index c.args.image.now.world c.is_made.new.image.world
    (tried-at s c.args.level c.args.index (c.heights.from - 1) c.heights.from (c.args.level + 1 - (c.heights.from - 1)) c.block_on_path-number.result (omega (arith, c.heights-test.true)) (omega (arith, c.heights.invariant.high)) c.block_on_path-number.ensures.value
    c.args.image.now.world c.heights.image.world c.is_made.new.image.world c.heights.invariant.asked c.is_made.ensures.asked)

pub returns-clause-asked : goal.returns-clause-asked
returns-clause-asked g c = tried-all c.args.sought.now.repair.now.shape c.requires.have.valid c.args.level c.args.index c.args.image.now.world c.heights.image.world c.heights.invariant.asked

pub is_made-requires-clause-inside : goal.is_made-requires-clause-inside
is_made-requires-clause-inside g c =
    let high : c.heights.from - 1 + (c.args.level + 1 - (c.heights.from - 1)) ≡ suc c.args.level = omega (arith, c.heights.invariant.high) in
    omega (arith, c.block_on_path-number.ensures.inside, ap (digests_in c.args.sought.now.repair.now.shape) high)

pub is_made-requires-clause-size : goal.is_made-requires-clause-size
is_made-requires-clause-size g c =
    let high : c.heights.from - 1 + (c.args.level + 1 - (c.heights.from - 1)) ≡ suc c.args.level = omega (arith, c.heights.invariant.high) in
    omega (arith, c.heights.auto.block, c.requires.size, ap (size_at c.args.sought.now.repair.now.shape) high)

pub returns-then-is_made-clause-read : goal.returns-then-is_made-clause-read
returns-then-is_made-clause-read g c = both-then c.args.image.now.world c.heights.image.world c.is_made.new.image.world c.heights.invariant.read c.is_made.ensures.read

pub heights-init : goal.heights-init
heights-init g c =
    let s = c.args.sought.now.repair.now.shape in
    let number = ancestor s (suc c.args.level) c.args.index in
    let due = untried_of s (suc c.args.level) number in
    record {
      high = omega arith;
      read = both-none c.args.image.now.world;
      called = both-nothing (DeviceDoes g.D.BlockDev.state g.D.BlockDev.does) (DeviceDoes g.H.BlockDev.state g.H.BlockDev.does) c.args.image.now;
      asked = subst (λ (n : ℕ). LeavesWorld (due (suc c.args.level)) (due n) c.args.image.now.world c.args.image.now.world) (sym (add-one c.args.level)) (leaves-none (due (suc c.args.level)) c.args.image.now.world);
      none = nowhere-none (lost_hash s c.args.sought.now.repair.now.salt c.args.level c.args.index c.args.sought.now.digest) c.args.image.now.world.data_dev c.args.image.now.world.hash_dev;
    }

pub heights-preserved : goal.heights-preserved
heights-preserved g c =
    let s = c.args.sought.now.repair.now.shape in
    let salt = c.args.sought.now.repair.now.salt in
    let d = c.args.image.now.world.data_dev in
    let h = c.args.image.now.world.hash_dev in
    let d1 = c.heights.image.world.data_dev in
    let h1 = c.heights.image.world.hash_dev in
    let from : ℕ = c.heights.from - 1 in
    let level = c.args.level in
    let unlike = rw c.block_on_path-number.ensures.value at c.is_made.ensures.none c.if-is_made.false in
    record {
      high = omega (arith, c.heights.invariant.high);
      read = both-then c.args.image.now.world c.heights.image.world c.is_made.new.image.world c.heights.invariant.read c.is_made.ensures.read;
      called = both-more (DeviceDoes g.D.BlockDev.state g.D.BlockDev.does) (DeviceDoes g.H.BlockDev.state g.H.BlockDev.does) c.args.image.now c.heights.image c.is_made.new.image c.heights.invariant.called c.is_made.ensures.called;
      asked = tried-at s level c.args.index from c.heights.from (level + 1 - from) c.block_on_path-number.result (omega (arith, c.heights-test.true)) (omega (arith, c.heights.invariant.high)) c.block_on_path-number.ensures.value
          c.args.image.now.world c.heights.image.world c.is_made.new.image.world c.heights.invariant.asked c.is_made.ensures.asked;
      none = nowhere-next (lost_hash s salt level c.args.index c.args.sought.now.digest) d h d1 h1 c.is_made.new.image.world.data_dev c.is_made.new.image.world.hash_dev from c.heights.from (omega (arith, c.heights-test.true))
          (omega (arith, c.heights.invariant.high, c.heights-test.true)) c.is_made.ensures.read.data_more c.is_made.ensures.read.hash_more c.heights.invariant.none
          (elim unlike [
            | inl failed ↦ inl failed
            | inr other ↦ inr (unlike-before s salt d h d1 h1 c.heights.invariant.read.devices from (level + 1 - from) (ancestor s (level + 1) c.args.index) c.args.sought.now.digest other)
          ]);
    }

pub returns-then-is_made-clause-made : goal.returns-then-is_made-clause-made
returns-then-is_made-clause-made g c = λ yes.
    let s = c.args.sought.now.repair.now.shape in
    let salt = c.args.sought.now.repair.now.salt in
    let d = c.args.image.now.world.data_dev in
    let h = c.args.image.now.world.hash_dev in
    let d1 = c.heights.image.world.data_dev in
    let h1 = c.heights.image.world.hash_dev in
    let from : ℕ = c.heights.from - 1 in
    let level = c.args.level in
    let over = rw c.block_on_path-number.ensures.value at c.is_made.ensures.stand c.if-is_made.true in
    record {
      from = from;
      beneath = omega (arith, c.heights.invariant.high, c.heights-test.true);
      stand = over-before s salt d h d1 h1 c.heights.invariant.read.devices from (level + 1 - from) (ancestor s (level + 1) c.args.index) c.is_made.new.block over;
    }

pub returns-then-is_made-clause-none : goal.returns-then-is_made-clause-none
returns-then-is_made-clause-none g c = λ no. absurd (true≢false no)

pub returns-clause-none : goal.returns-clause-none
returns-clause-none g c = λ no.
    let x = lost_hash c.args.sought.now.repair.now.shape c.args.sought.now.repair.now.salt c.args.level c.args.index c.args.sought.now.digest in
    let all : c.heights.from ≡ 0 = omega (arith, c.heights-test.false) in
    subst (λ (n : ℕ). IsNowhereFrom x n c.args.image.now.world.data_dev c.args.image.now.world.hash_dev c.heights.image.world.data_dev c.heights.image.world.hash_dev) all c.heights.invariant.none

pub returns-then-is_made-clause-called : goal.returns-then-is_made-clause-called
returns-then-is_made-clause-called g c = both-more (DeviceDoes g.D.BlockDev.state g.D.BlockDev.does) (DeviceDoes g.H.BlockDev.state g.H.BlockDev.does) c.args.image.now c.heights.image c.is_made.new.image c.heights.invariant.called c.is_made.ensures.called

pub returns-clause-called : goal.returns-clause-called
returns-clause-called g c = c.heights.invariant.called
