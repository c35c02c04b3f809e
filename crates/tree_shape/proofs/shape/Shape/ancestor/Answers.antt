use Rattle.std.proofs.Common.{sym, arith, ◌≤◌, ◌*◌}
use Rattle.std.proofs.Math.Nat.{mul-le-mul}
use Rattle.tree_shape.proofs.ShiftLemmas.{ancestor-shift, ancestor-top}
use Rattle.tree_shape.proofs.shape.Shape.ancestor.Goals as goal

pub returns-then-distance-lt-BITS-clause-value : goal.returns-then-distance-lt-BITS-clause-value
returns-then-distance-lt-BITS-clause-value c = sym (ancestor-shift c.args.self.now c.slot_bits-bits.result c.slot_bits-bits.ensures.value c.args.steps c.args.index)

pub returns-else-distance-lt-BITS-clause-value : goal.returns-else-distance-lt-BITS-clause-value
returns-else-distance-lt-BITS-clause-value c = sym (ancestor-top c.args.self.now c.slot_bits-bits.result c.slot_bits-bits.ensures.value c.args.steps c.args.index 64 (omega (arith, c.ranges.index.fits)) (omega (arith, c.if-distance-lt-BITS.false)))

pub returns-then-steps-ge16-clause-value : goal.returns-then-steps-ge16-clause-value
returns-then-steps-ge16-clause-value c =
    let far : 4 * 16 ≤ c.slot_bits-bits.result * c.args.steps = mul-le-mul c.slot_bits-bits.ensures.some c.if-steps-ge16.true in
    sym (ancestor-top c.args.self.now c.slot_bits-bits.result c.slot_bits-bits.ensures.value c.args.steps c.args.index 64 (omega (arith, c.ranges.index.fits)) (omega (arith, far)))
