use Rattle.std.proofs.Common.{◌≡◌, ◌+◌, ◌-◌, ◌^◌, ◌∙◌, ℕ, refl, sym, subst, ap, arith, min, true}
use Rattle.std.proofs.Math.Nat.{zero-mod}
use Rattle.tree_shape.specs.Shape.{per_block}
use Rattle.tree_shape.proofs.lemmas.ShapeFaultLemmas.{blocks-le}
use Rattle.tree_shape.proofs.lemmas.ShapeLemmas.{pow_pos}
use Rattle.tree_repair.specs.AccessBudgets.{LeavesWorld, height_over}
use Rattle.tree_repair.specs.Jobs.{job}
use Rattle.tree_repair.specs.ParityBounds.{blocks_over}
use Rattle.tree_repair.proofs.BillLemmas.{leaves-end, leaves-none, leaves-then}
use Rattle.tree_repair.proofs.HeightLemmas.{rows-next}
use Rattle.tree_repair.proofs.RowLemmas.{per_block-some, row-next}
use Rattle.tree_repair.proofs.OnceLemmas.{parts-rows}
use Rattle.tree_repair.proofs.PassLemmas.{noted-ends, noted-from, noted-none, noted-not, noted-same, noted-then}
use Rattle.tree_repair.proofs.RunLemmas.{can-later, ends-read, memory-within, world-none}
use Rattle.block_device.specs.Call.{DeviceDoes}
use Rattle.tree_repair.proofs.RunCallLemmas.{hands-ended, hands-none, hands-then}
use Rattle.tree_repair.proofs.levels.repair_height.Goals as goal

pub span-width-requires : goal.span-width-requires
span-width-requires g c = omega (arith, c.blocks-blocks.ensures.value, (blocks-le c.args.repair.now.shape c.requires.can.valid).0)

pub span-step-requires : goal.span-step-requires
span-step-requires g c = omega (arith, c.blocks-blocks.ensures.value, (blocks-le c.args.repair.now.shape c.requires.can.valid).0)

pub returns-in_err-last_path-clause-notes : goal.returns-in_err-last_path-clause-notes
returns-in_err-last_path-clause-notes g c = noted-from c.from_residual.result c.from_residual.ensures.1 (noted-not (ends-read (world-none c.args.image.now.world) (memory-within 4096 (omega arith) c.in_err-last_path.ensures.err)) refl)

pub rows-init : goal.rows-init
rows-init g c = record { tree = c.in_ok-last_path.ensures.ok; begins = λ some. zero-mod (per_block c.args.repair.now.shape ^ (c.args.height + 1)); inside = omega arith; asked = (let s = c.args.repair.now.shape in let all : s.blocks ≡ s.blocks - 0 = omega arith in subst (λ (n : ℕ). LeavesWorld (height_over s c.args.height s.blocks) (height_over s c.args.height n) c.args.image.now.world c.args.image.now.world) all (leaves-none (height_over s c.args.height s.blocks) c.args.image.now.world)); few = (let s = c.args.repair.now.shape in let all : s.blocks - 0 ≡ s.blocks = omega arith in omega (arith, ap (blocks_over s c.args.height) all)); run = noted-none (λ h i due. omega (arith, due.1.1)); handed = hands-none (DeviceDoes g.D.BlockDev.state g.D.BlockDev.does) (DeviceDoes g.H.BlockDev.state g.H.BlockDev.does) (job c.args.repair.now) c.args.image.now }

pub repair_row-requires-clause-can : goal.repair_row-requires-clause-can
repair_row-requires-clause-can g c = can-later c.rows.invariant.run.run c.requires.can

pub repair_row-requires-clause-row : goal.repair_row-requires-clause-row
repair_row-requires-clause-row g c =
    let s = c.args.repair.now.shape in
    let p = per_block s in
    let some = per_block-some s c.requires.can.valid in
    let high = pow_pos p (c.args.height + 1) some in
    let low = pow_pos p c.args.height some in
    let few = (blocks-le s c.requires.can.valid).0 in
    record {
      high = c.requires.height;
      begins = c.rows.invariant.begins (omega (arith, c.rows-test.true, c.blocks-blocks.ensures.value));
      few = omega (arith, c.span-width.ensures, c.min-end.ensures);
      inside = omega (arith, c.min-end.ensures, c.blocks-blocks.ensures.value);
      steps = omega (arith, c.span-step.ensures, low, c.blocks-blocks.ensures.value, c.requires.can.valid.some);
      step_is = c.span-step.ensures ∙ ap (min (p ^ c.args.height)) c.blocks-blocks.ensures.value;
      small = omega (arith, c.span-step.ensures, few, c.blocks-blocks.ensures.value);
    }

pub repair_row-requires-clause-some : goal.repair_row-requires-clause-some
repair_row-requires-clause-some g c = omega (arith, c.rows-test.true, c.blocks-blocks.ensures.value)

pub rows-preserved : goal.rows-preserved
rows-preserved g c = record {
  tree = c.repair_row.ensures.tree;
  handed = hands-then (DeviceDoes g.D.BlockDev.state g.D.BlockDev.does) (DeviceDoes g.H.BlockDev.state g.H.BlockDev.does) (job c.args.repair.now) true c.args.image.now c.rows.image c.repair_row.new.image c.rows.invariant.handed c.in_ok-repair_row.ensures.handed;
  begins = λ less. row-next (per_block c.args.repair.now.shape) c.args.height c.rows.first c.span-width.result c.blocks-blocks.result c.min-end.result
      (c.rows.invariant.begins (omega (arith, c.rows-test.true, c.blocks-blocks.ensures.value))) c.span-width.ensures c.min-end.ensures (omega (arith, less, c.blocks-blocks.ensures.value));
  inside = omega (arith, c.min-end.ensures, c.blocks-blocks.ensures.value);
  asked =
      let s = c.args.repair.now.shape in
      let next : s.blocks - c.rows.first - per_block s ^ (c.args.height + 1) ≡ s.blocks - c.min-end.result =
      sym (rows-next s.blocks c.rows.first c.span-width.result (per_block s ^ (c.args.height + 1)) c.min-end.result (c.span-width.ensures ∙ ap (min (per_block s ^ (c.args.height + 1))) c.blocks-blocks.ensures.value) (c.min-end.ensures ∙ ap (min (c.rows.first + c.span-width.result)) c.blocks-blocks.ensures.value)) in
      subst (λ (n : ℕ). LeavesWorld (height_over s c.args.height s.blocks) (height_over s c.args.height n) c.args.image.now.world c.repair_row.new.image.world) next (leaves-then c.rows.invariant.asked c.repair_row.ensures.asked);
  few =
      let s = c.args.repair.now.shape in
      let next : s.blocks - c.rows.first - per_block s ^ (c.args.height + 1) ≡ s.blocks - c.min-end.result =
      sym (rows-next s.blocks c.rows.first c.span-width.result (per_block s ^ (c.args.height + 1)) c.min-end.result (c.span-width.ensures ∙ ap (min (per_block s ^ (c.args.height + 1))) c.blocks-blocks.ensures.value) (c.min-end.ensures ∙ ap (min (c.rows.first + c.span-width.result)) c.blocks-blocks.ensures.value)) in
      omega (arith, c.rows.invariant.few, c.in_ok-repair_row.ensures.few, ap (blocks_over s c.args.height) next);
  run = noted-then c.rows.invariant.run c.in_ok-repair_row.ensures.notes
      (parts-rows c.args.repair.now.shape c.requires.can.valid c.args.height c.rows.first c.min-end.result (c.rows.invariant.begins (omega (arith, c.rows-test.true, c.blocks-blocks.ensures.value)))
      (omega (arith, c.rows-test.true, c.min-end.ensures)));
}

pub rows-smaller : goal.rows-smaller
rows-smaller g c =
    let s = c.args.repair.now.shape in
    let high = pow_pos (per_block s) (c.args.height + 1) (per_block-some s c.requires.can.valid) in
    omega (arith, c.rows-test.true, c.blocks-blocks.ensures.value, c.span-width.ensures, c.min-end.ensures, high, c.requires.can.valid.some)

pub returns-in_err-repair_row-clause-notes : goal.returns-in_err-repair_row-clause-notes
returns-in_err-repair_row-clause-notes g c = noted-from c.from_residual-in_err-repair_row.result c.from_residual-in_err-repair_row.ensures.1 (noted-ends c.rows.invariant.run c.in_err-repair_row.ensures.notes)

pub returns-clause-notes : goal.returns-clause-notes
returns-clause-notes g c = noted-same c.rows.invariant.run (λ h i due. (due.0, (due.1.0, omega (arith, due.1.1, c.rows-test.false, c.blocks-blocks.ensures.value))))
    (λ h i due. (due.0, (due.1.0, omega (arith, due.1.1, c.rows.invariant.inside))))

pub returns-in_err-last_path-clause-asked : goal.returns-in_err-last_path-clause-asked
returns-in_err-last_path-clause-asked g c = leaves-end (leaves-none (height_over c.args.repair.now.shape c.args.height c.args.repair.now.shape.blocks) c.args.image.now.world)

pub returns-in_err-repair_row-clause-asked : goal.returns-in_err-repair_row-clause-asked
returns-in_err-repair_row-clause-asked g c = leaves-end (leaves-then c.rows.invariant.asked c.repair_row.ensures.asked)

pub returns-clause-asked : goal.returns-clause-asked
returns-clause-asked g c = leaves-end c.rows.invariant.asked

pub returns-clause-few : goal.returns-clause-few
returns-clause-few g c = omega (arith, c.rows.invariant.few)

pub returns-in_err-last_path-clause-handed : goal.returns-in_err-last_path-clause-handed
returns-in_err-last_path-clause-handed g c =
    let asks = DeviceDoes g.D.BlockDev.state g.D.BlockDev.does in
    let does = DeviceDoes g.H.BlockDev.state g.H.BlockDev.does in
    hands-ended asks does (job c.args.repair.now) c.args.image.now c.args.image.now c.from_residual.result _ c.from_residual.ensures.1 (hands-none asks does (job c.args.repair.now) c.args.image.now)

pub returns-in_err-repair_row-clause-handed : goal.returns-in_err-repair_row-clause-handed
returns-in_err-repair_row-clause-handed g c =
    let asks = DeviceDoes g.D.BlockDev.state g.D.BlockDev.does in
    let does = DeviceDoes g.H.BlockDev.state g.H.BlockDev.does in
    hands-ended asks does (job c.args.repair.now) c.args.image.now c.repair_row.new.image c.from_residual-in_err-repair_row.result _ c.from_residual-in_err-repair_row.ensures.1
    (hands-then asks does (job c.args.repair.now) _ c.args.image.now c.rows.image c.repair_row.new.image c.rows.invariant.handed c.in_err-repair_row.ensures.handed)

pub returns-clause-handed : goal.returns-clause-handed
returns-clause-handed g c = c.rows.invariant.handed
