use Rattle.std.proofs.Common.{◌≡◌, ◌+◌, ◌-◌, ℕ, sym, subst, List, length, ap, refl, ◌∙◌, arith, true}
use Rattle.std.proofs.lemmas.List.{length-replicate}
use Rattle.tree_shape.proofs.lemmas.ShapeFactLemmas.{levels-few}
use Rattle.tree_shape.specs.Shape.{levels}
use Rattle.tree_repair.specs.AccessBudgets.{LeavesWorld, pass_over}
use Rattle.tree_repair.proofs.BillLemmas.{leaves-end, leaves-none}
use Rattle.tree_repair.proofs.CountLemmas.{count-down, counts-all, counts_over}
use Rattle.tree_repair.proofs.HeightLemmas.{heights-next, heights-pass, heights_over}
use Rattle.tree_repair.specs.Jobs.{job}
use Rattle.tree_repair.specs.Outcomes.{StandsFrom}
use Rattle.tree_repair.proofs.OutcomeLemmas.{on_ok-from, stands-next, stands-none}
use Rattle.tree_repair.proofs.OnceLemmas.{parts-heights}
use Rattle.tree_repair.proofs.PassLemmas.{noted-ends, noted-from, noted-none, noted-not, noted-same, noted-then}
use Rattle.tree_repair.proofs.RunLemmas.{can-later, ends-read, refused-within, world-none}
use Rattle.block_device.specs.Call.{DeviceDoes}
use Rattle.tree_repair.proofs.RunCallLemmas.{hands-ended, hands-none, hands-then}
use Rattle.tree_repair.proofs.repair.repair_heights.Goals as goal

pub returns-in_err-room-clause-notes : goal.returns-in_err-room-clause-notes
returns-in_err-room-clause-notes g c = noted-from c.from_residual.result c.from_residual.ensures.1 (noted-not (ends-read (world-none c.args.image.now.world) (refused-within 65536 (omega arith) c.in_err-room.ensures.err.1)) refl)

pub heights-init : goal.heights-init
heights-init g c = record {
  low = omega (arith, c.levels-levels.ensures.value);
  most = omega (arith, c.requires.low, c.levels-levels.ensures.value);
  asked =
      let s = c.args.repair.now.shape in
      let top : levels s + 1 ≡ c.levels-levels.result + 1 = ap (λ (n : ℕ). n + 1) (sym c.levels-levels.ensures.value) in
      subst (λ (n : ℕ). LeavesWorld (heights_over s (levels s + 1)) (heights_over s n) c.args.image.now.world c.args.image.now.world) top (leaves-none (heights_over s (levels s + 1)) c.args.image.now.world);
  few =
      let s = c.args.repair.now.shape in
      let top : levels s + 1 ≡ c.levels-levels.result + 1 = ap (λ (n : ℕ). n + 1) (sym c.levels-levels.ensures.value) in
      omega (arith, ap (counts_over s) top);
  run = noted-none (λ h i due. omega (arith, due.0, due.1.0, c.levels-levels.ensures.value));
  handed = hands-none (DeviceDoes g.D.BlockDev.state g.D.BlockDev.does) (DeviceDoes g.H.BlockDev.state g.H.BlockDev.does) (job c.args.repair.now) c.args.image.now;
  whole = stands-none (job c.args.repair.now) (c.levels-levels.result + 1) c.args.image.now.world (omega (arith, c.levels-levels.ensures.value));
}

pub repair_height-requires-clause-can : goal.repair_height-requires-clause-can
repair_height-requires-clause-can g c = can-later c.heights.invariant.run.run c.requires.can

pub repair_height-requires-clause-height : goal.repair_height-requires-clause-height
repair_height-requires-clause-height g c = omega (arith, c.heights.invariant.low, c.heights-test.true)

pub repair_height-requires-clause-few : goal.repair_height-requires-clause-few
repair_height-requires-clause-few g c = omega (arith, c.heights.invariant.low, c.heights-test.true, levels-few c.args.repair.now.shape c.requires.can.valid)

pub repair_height-requires-clause-room : goal.repair_height-requires-clause-room
repair_height-requires-clause-room g c =
    omega (arith, c.heights.auto.memory, ap (λ (l : List ℕ). length l) (c.as_mut_slice-memory.ensures.value ∙ c.in_ok-room.ensures.ok) ∙ length-replicate {A = ℕ} 65536 0)

pub heights-preserved : goal.heights-preserved
heights-preserved g c = record {
  low = omega (arith, c.heights.invariant.low);
  most = omega (arith, c.heights-test.true);
  handed = hands-then (DeviceDoes g.D.BlockDev.state g.D.BlockDev.does) (DeviceDoes g.H.BlockDev.state g.H.BlockDev.does) (job c.args.repair.now) true c.args.image.now c.heights.image c.repair_height.new.image c.heights.invariant.handed c.in_ok-repair_height.ensures.handed;
  asked = heights-next c.args.repair.now.shape c.heights.height (c.heights.height - 1) (omega (arith, c.heights-test.true)) c.args.image.now.world c.heights.image.world c.repair_height.new.image.world c.heights.invariant.asked c.repair_height.ensures.asked;
  few = omega (arith, c.heights.invariant.few, c.in_ok-repair_height.ensures.few, count-down c.args.repair.now.shape c.heights.height (c.heights.height - 1) (omega (arith, c.heights-test.true)));
  run = noted-then c.heights.invariant.run c.in_ok-repair_height.ensures.notes
      (parts-heights c.args.repair.now.shape c.heights.height (c.heights.height - 1) (omega (arith, c.heights-test.true)) (omega (arith, c.heights.invariant.low, c.heights-test.true)));
  whole = stands-next c.heights.height (c.heights.height - 1) (omega (arith, c.heights-test.true)) c.heights.invariant.whole c.in_ok-repair_height.ensures.notes;
}

pub returns-in_err-repair_height-clause-notes : goal.returns-in_err-repair_height-clause-notes
returns-in_err-repair_height-clause-notes g c =
    noted-from c.from_residual-in_err-repair_height.result c.from_residual-in_err-repair_height.ensures.1 (noted-ends c.heights.invariant.run c.in_err-repair_height.ensures.notes)

pub returns-clause-notes : goal.returns-clause-notes
returns-clause-notes g c = noted-same c.heights.invariant.run (λ h i due. (omega (arith, c.heights-test.false, due.0), due.1)) (λ h i due. (omega (arith, c.heights.invariant.most, due.0), due.1))

pub returns-in_err-room-clause-asked : goal.returns-in_err-room-clause-asked
returns-in_err-room-clause-asked g c = leaves-end (leaves-none (pass_over c.args.repair.now.shape) c.args.image.now.world)

pub returns-in_err-repair_height-clause-asked : goal.returns-in_err-repair_height-clause-asked
returns-in_err-repair_height-clause-asked g c =
    heights-pass c.args.repair.now.shape c.requires.can.valid c.args.image.now.world c.repair_height.new.image.world
    (heights-next c.args.repair.now.shape c.heights.height (c.heights.height - 1) (omega (arith, c.heights-test.true)) c.args.image.now.world c.heights.image.world c.repair_height.new.image.world c.heights.invariant.asked c.repair_height.ensures.asked)

pub returns-clause-asked : goal.returns-clause-asked
returns-clause-asked g c = heights-pass c.args.repair.now.shape c.requires.can.valid c.args.image.now.world c.heights.image.world c.heights.invariant.asked

pub returns-clause-few : goal.returns-clause-few
returns-clause-few g c = omega (arith, c.heights.invariant.few, counts-all c.args.repair.now.shape)

pub returns-in_err-room-clause-whole : goal.returns-in_err-room-clause-whole
returns-in_err-room-clause-whole g c = on_ok-from c.from_residual.result _ _ c.from_residual.ensures.1

pub returns-in_err-repair_height-clause-whole : goal.returns-in_err-repair_height-clause-whole
returns-in_err-repair_height-clause-whole g c = on_ok-from c.from_residual-in_err-repair_height.result _ _ c.from_residual-in_err-repair_height.ensures.1

pub returns-clause-whole : goal.returns-clause-whole
returns-clause-whole g c =
    let end : c.heights.height ≡ c.args.lowest = omega (arith, c.heights-test.false, c.heights.invariant.most) in
    subst (λ (n : ℕ). StandsFrom (job c.args.repair.now) n c.args.image.now.world c.heights.image.world) end c.heights.invariant.whole

pub returns-in_err-room-clause-handed : goal.returns-in_err-room-clause-handed
returns-in_err-room-clause-handed g c =
    let asks = DeviceDoes g.D.BlockDev.state g.D.BlockDev.does in
    let does = DeviceDoes g.H.BlockDev.state g.H.BlockDev.does in
    hands-ended asks does (job c.args.repair.now) c.args.image.now c.args.image.now c.from_residual.result _ c.from_residual.ensures.1 (hands-none asks does (job c.args.repair.now) c.args.image.now)

pub returns-in_err-repair_height-clause-handed : goal.returns-in_err-repair_height-clause-handed
returns-in_err-repair_height-clause-handed g c =
    let asks = DeviceDoes g.D.BlockDev.state g.D.BlockDev.does in
    let does = DeviceDoes g.H.BlockDev.state g.H.BlockDev.does in
    hands-ended asks does (job c.args.repair.now) c.args.image.now c.repair_height.new.image c.from_residual-in_err-repair_height.result _ c.from_residual-in_err-repair_height.ensures.1
    (hands-then asks does (job c.args.repair.now) _ c.args.image.now c.heights.image c.repair_height.new.image c.heights.invariant.handed c.in_err-repair_height.ensures.handed)

pub returns-clause-handed : goal.returns-clause-handed
returns-clause-handed g c = c.heights.invariant.handed
