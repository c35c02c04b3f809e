use Rattle.std.proofs.Common.{◌≡◌, ◌+◌, ◌-◌, ◌^◌, ℕ, sym, ap, arith, inl, inr, subst, true}
use Rattle.std.proofs.lemmas.Bool.{cases_lt}
use Rattle.tree_shape.specs.Shape.{ancestor, per_block}
use Rattle.tree_repair.proofs.BlockCheckLemmas.{first-begins, next-begins, same-above}
use Rattle.tree_shape.proofs.lemmas.ShapeFaultLemmas.{blocks-le}
use Rattle.tree_repair.specs.AccessBudgets.{LeavesWorld, checks_over}
use Rattle.tree_repair.proofs.BillLemmas.{leaves-none, leaves-then}
use Rattle.tree_repair.specs.ParityBounds.{blocks_over}
use Rattle.tree_repair.proofs.CountLemmas.{count-fewer, count-next}
use Rattle.tree_repair.proofs.HeightLemmas.{next-left, row-left, visit-at, visits-fewer}
use Rattle.tree_repair.specs.Jobs.{job}
use Rattle.tree_repair.proofs.RowLemmas.{way-along}
use Rattle.tree_repair.proofs.OnceLemmas.{parts-places}
use Rattle.tree_repair.proofs.PassLemmas.{noted-ends, noted-from, noted-none, noted-same, noted-then}
use Rattle.tree_repair.proofs.RunLemmas.{can-later}
use Rattle.block_device.specs.Call.{DeviceDoes}
use Rattle.tree_repair.proofs.RunCallLemmas.{hands-ended, hands-none, hands-then}
use Rattle.tree_repair.proofs.levels.repair_blocks.Goals as goal

pub places-init : goal.places-init
places-init g c = record {
  from = omega arith;
  begins = λ less. first-begins c.args.repair.now.shape c.args.row c.requires.can.valid c.requires.row;
  asked = leaves-none (checks_over c.args.repair.now.shape c.args.row.height (c.args.repair.now.shape.blocks - c.args.row.first)) c.args.image.now.world;
  few = omega arith;
  enough = omega arith;
  run = noted-none (λ h i due. omega (arith, due.0.1.0, due.1));
  handed = hands-none (DeviceDoes g.D.BlockDev.state g.D.BlockDev.does) (DeviceDoes g.H.BlockDev.state g.H.BlockDev.does) (job c.args.repair.now) c.args.image.now;
}

pub repair_block-requires-clause-can : goal.repair_block-requires-clause-can
repair_block-requires-clause-can g c = can-later c.places.invariant.run.run c.requires.can

pub repair_block-requires-clause-inside : goal.repair_block-requires-clause-inside
repair_block-requires-clause-inside g c = omega (arith, c.places-test.true, c.requires.row.inside)

pub repair_block-requires-clause-way : goal.repair_block-requires-clause-way
repair_block-requires-clause-way g c =
    way-along (job c.args.repair.now).tree c.requires.can.valid c.args.row.first c.places.index c.args.row.height c.args.path.now c.requires.row.begins c.places.invariant.from
    (omega (arith, c.places-test.true, c.requires.row.few)) c.requires.way

pub overflow_add-index : goal.overflow_add-index
overflow_add-index g c = omega (arith, c.places-test.true, c.requires.row.inside, c.requires.row.small, (blocks-le c.args.repair.now.shape c.requires.can.valid).0)

pub places-preserved : goal.places-preserved
places-preserved g c =
    let s = c.args.repair.now.shape in
    let row = c.args.row in
    record {
      from = omega (arith, c.places.invariant.from);
      handed = hands-then (DeviceDoes g.D.BlockDev.state g.D.BlockDev.does) (DeviceDoes g.H.BlockDev.state g.H.BlockDev.does) (job c.args.repair.now) true c.args.image.now c.places.image c.repair_block.new.image c.places.invariant.handed c.in_ok-repair_block.ensures.handed;
      begins = λ less. next-begins (per_block s) row.height c.places.index row.step s.blocks row.end (c.places.invariant.begins c.places-test.true) c.requires.row.step_is c.requires.row.inside less;
      asked = subst (λ (n : ℕ). LeavesWorld (checks_over s row.height (s.blocks - row.first)) (checks_over s row.height n) c.args.image.now.world c.repair_block.new.image.world) (sym (next-left s c.requires.can.valid row c.requires.row c.places.index))
          (leaves-then c.places.invariant.asked (visit-at s c.requires.can.valid row.height c.places.index (c.places.invariant.begins c.places-test.true) c.places.image.world c.repair_block.new.image.world c.repair_block.ensures.asked));
      few = omega (arith, c.places.invariant.few, c.in_ok-repair_block.ensures.few, count-next s c.requires.can.valid row.height (s.blocks - c.places.index) (omega (arith, c.places-test.true, c.requires.row.inside)), ap (blocks_over s row.height) (next-left s c.requires.can.valid row c.requires.row c.places.index));
      enough = omega (arith, next-left s c.requires.can.valid row c.requires.row c.places.index, row-left s c.requires.can.valid row c.requires.row c.places.index (c.places.invariant.begins c.places-test.true) c.places-test.true);
      run = noted-then c.places.invariant.run c.in_ok-repair_block.ensures.notes
          (parts-places s c.requires.can.valid row c.places.index (c.places.index + row.step) c.places.invariant.from c.places-test.true (omega (arith, c.requires.row.steps))
          (c.places.invariant.begins c.places-test.true)
          (λ h i due.
          elim (cases_lt i c.places.index) [
            | inl before ↦ inl (due.0, before)
            | inr behind ↦ inr (
              due.0.0,
              subst (λ (n : ℕ). ancestor s n c.places.index ≡ ancestor s n i) due.0.0
                  (same-above s row.height c.places.index i c.requires.can.valid (c.places.invariant.begins c.places-test.true) behind (omega (arith, due.1, c.requires.row.step_is))),
            )
          ]));
    }

pub returns-in_err-repair_block-clause-notes : goal.returns-in_err-repair_block-clause-notes
returns-in_err-repair_block-clause-notes g c = noted-from c.from_residual.result c.from_residual.ensures.1 (noted-ends c.places.invariant.run c.in_err-repair_block.ensures.notes)

pub returns-clause-notes : goal.returns-clause-notes
returns-clause-notes g c = noted-same c.places.invariant.run (λ h i due. (due, omega (arith, due.1.1, c.places-test.false))) (λ h i due. due.0)

pub returns-in_err-repair_block-clause-asked : goal.returns-in_err-repair_block-clause-asked
returns-in_err-repair_block-clause-asked g c =
    let s = c.args.repair.now.shape in
    let row = c.args.row in
    let valid = c.requires.can.valid in
    let begins = c.places.invariant.begins c.places-test.true in
    visits-fewer s valid row.height (s.blocks - c.places.index - per_block s ^ row.height) (s.blocks - row.first - per_block s ^ (row.height + 1)) c.args.image.now.world c.repair_block.new.image.world
    (row-left s valid row c.requires.row c.places.index begins c.places-test.true)
    (leaves-then c.places.invariant.asked (visit-at s valid row.height c.places.index begins c.places.image.world c.repair_block.new.image.world c.repair_block.ensures.asked))

pub returns-clause-asked : goal.returns-clause-asked
returns-clause-asked g c =
    let s = c.args.repair.now.shape in
    let row = c.args.row in
    visits-fewer s c.requires.can.valid row.height (s.blocks - c.places.index) (s.blocks - row.first - per_block s ^ (row.height + 1)) c.args.image.now.world c.places.image.world c.places.invariant.enough c.places.invariant.asked

pub returns-clause-few : goal.returns-clause-few
returns-clause-few g c =
    let s = c.args.repair.now.shape in
    let row = c.args.row in
    omega (arith, c.places.invariant.few, count-fewer s c.requires.can.valid row.height (s.blocks - row.first - per_block s ^ (row.height + 1)) (s.blocks - c.places.index) c.places.invariant.enough)

pub returns-in_err-repair_block-clause-handed : goal.returns-in_err-repair_block-clause-handed
returns-in_err-repair_block-clause-handed g c =
    let asks = DeviceDoes g.D.BlockDev.state g.D.BlockDev.does in
    let does = DeviceDoes g.H.BlockDev.state g.H.BlockDev.does in
    hands-ended asks does (job c.args.repair.now) c.args.image.now c.repair_block.new.image c.from_residual.result _ c.from_residual.ensures.1
    (hands-then asks does (job c.args.repair.now) _ c.args.image.now c.places.image c.repair_block.new.image c.places.invariant.handed c.in_err-repair_block.ensures.handed)

pub returns-clause-handed : goal.returns-clause-handed
returns-clause-handed g c = c.places.invariant.handed
