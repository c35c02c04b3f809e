use Rattle.std.proofs.Common.{◌≡◌, ◌≤◌, ◌/◌, ◌+◌, ◌-◌, suc, sym, ◌∙◌, arith, zero-add}
use Rattle.tree_shape.specs.Shape.{per_block, levels, divisions}
use Rattle.tree_shape.proofs.lemmas.ShapeLemmas.{divisions-steps, divisions-step}
use Rattle.tree_shape.proofs.lemmas.ShapeFactLemmas.{two, levels-is, levels-few}
use Rattle.tree_shape.proofs.shape.Shape.levels.Goals as goal

pub loop-rest-init : goal.loop-rest-init
loop-rest-init c =
    let s = c.args.self.now in
    let valid = c.blocks-rest.ensures.valid in
    record {
      digests = c.slot_bits-bits.ensures.value;
      left = λ steps room.
          let enough : s.blocks - 1 ≤ steps = omega (arith, room, c.blocks-rest.ensures.value) in
          rw (zero-add, c.blocks-rest.ensures.value)
          (divisions-steps steps (s.blocks - 1) (per_block s) (s.blocks - 1) (two s valid) enough (omega arith) ∙ sym (levels-is s valid));
    }

pub overflow_add-count : goal.overflow_add-count
overflow_add-count c =
    let s = c.args.self.now in
    let left : c.loop-rest.count + divisions c.loop-rest.rest (per_block s) c.loop-rest.rest ≡ levels s = c.loop-rest.invariant.left c.loop-rest.rest (omega arith) in
    omega (arith, left, levels-few s c.blocks-rest.ensures.valid)

pub loop-rest-preserved : goal.loop-rest-preserved
loop-rest-preserved c =
    let s = c.args.self.now in
    let n = c.loop-rest.rest in
    let here = c.loop-rest.invariant in
    record {
      digests = here.digests;
      left = λ steps room.
          let fewer : n / per_block s ≤ steps = rw here.digests at room in
          let step : divisions n (per_block s) n ≡ suc (divisions steps (per_block s) (n / per_block s)) =
          divisions-step steps (per_block s) n (two s c.blocks-rest.ensures.valid) c.loop-rest-test.true fewer in
          let before : c.loop-rest.count + divisions n (per_block s) n ≡ levels s = here.left n (omega arith) in
          rw here.digests (omega (arith, step, before));
    }

pub returns-clause-few : goal.returns-clause-few
returns-clause-few c =
    let s = c.args.self.now in
    let left : c.loop-rest.count + divisions c.loop-rest.rest (per_block s) c.loop-rest.rest ≡ levels s = c.loop-rest.invariant.left c.loop-rest.rest (omega arith) in
    omega (arith, left, levels-few s c.blocks-rest.ensures.valid)
