use Rattle.std.proofs.Common.{◌+◌, sym, subst, ap, ◌∙◌, refl, arith}
use Rattle.aes_lanes.specs.Constant.{add_constant}
use Rattle.aes_lanes.specs.Keys.{AreOneBlock, kept_key}
use Rattle.aes_lanes.specs.Planes.{lane_block, shifted}
use Rattle.aes_lanes.proofs.ShiftLemmas.{length-block_of, shifted-zero, shifted-back}
use Rattle.aes_lanes.proofs.KeyLemmas.{kept_key-later}
use Rattle.aes_lanes.proofs.keys.kept_planes.Goals as goal
use Rattle.aes_lanes.proofs.keys.kept_planes.Goals.{then-round-eq0, else-round-eq0}

pub loop-shift-init : goal.loop-shift-init
loop-shift-init c = elim c.if-round-eq0.branch [
  | then-round-eq0 w ↦ rw (w.planes-is, w.if-round-eq0.true) (rw w.if-round-eq0.true at c.copies-plain.ensures)
  | else-round-eq0 w ↦
      let planes = w.add_constant-planes.result in
      subst (AreOneBlock 0 (kept_key c.args.schedule.now c.args.round)) (sym w.planes-is) (record {
        planes = w.add_constant-planes.ensures.planes;
        blocks = λ j h.
            shifted-zero (lane_block planes j)
            ∙ w.add_constant-planes.ensures.blocks j h
            ∙ ap add_constant (sym (shifted-zero _) ∙ c.copies-plain.ensures.blocks j h)
            ∙ sym (kept_key-later c.args.schedule.now c.args.round (omega (arith, w.if-round-eq0.false)));
      })
]

pub loop-shift-preserved : goal.loop-shift-preserved
loop-shift-preserved c =
    let i = c.loop-shift._shift in
    record {
      planes = c.inv_shift_rows-planes.ensures.planes;
      blocks = λ j h.
          ap (shifted (i + 1)) (c.inv_shift_rows-planes.ensures.blocks j h)
          ∙ shifted-back i (i + 1) (lane_block c.loop-shift.planes j) (length-block_of c.loop-shift.planes j) refl
          ∙ c.loop-shift.invariant.blocks j h;
    }
