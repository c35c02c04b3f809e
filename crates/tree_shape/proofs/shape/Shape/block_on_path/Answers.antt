use Rattle.std.proofs.Common.{◌≡◌, ◌/◌, ◌+◌, ◌^◌, sym, arith}
use Rattle.tree_shape.specs.Shape.{ancestor}
use Rattle.tree_shape.proofs.lemmas.ShapeFactLemmas.{ancestor-more, ancestor-lt}
use Rattle.tree_shape.proofs.shape.Shape.block_on_path.Goals as goal

number : (c : goal.After-slot_bits) → c.ancestor.result / 2 ^ c.slot_bits.result ≡ ancestor c.args.self.now (c.args.level + 1) c.args.index
number c =
    let s = c.args.self.now in
    rw (c.ancestor.ensures.value, c.slot_bits.ensures.value) (sym (ancestor-more s c.slot_bits.ensures.valid c.args.level c.args.index))

pub returns-clause-value : goal.returns-clause-value
returns-clause-value c = number c

pub returns-clause-inside : goal.returns-clause-inside
returns-clause-inside c = omega (arith, number c, ancestor-lt c.args.self.now c.slot_bits.ensures.valid c.args.level c.args.index c.requires)
