use Rattle.std.proofs.Common.{◌≡◌, ◌%◌, sym, ◌∙◌, arith}
use Rattle.std.proofs.lemmas.Nat.{and_mask}
use Rattle.std.specs.Int.Bits.{xor_zero_l}
use Rattle.aes_block.specs.Field.{product, product_low}
use Rattle.aes_block.proofs.lemmas.FieldLemmas.{product_low_set, product_low_clear, product_low_none}
use Rattle.aes_block.proofs.field.multiply.Goals as goal
use Rattle.aes_block.proofs.field.multiply.Goals.{then-rest-eq1, else-rest-eq1}

pub loop-bit-init : goal.loop-bit-init
loop-bit-init c = xor_zero_l (product_low 8 c.args.a c.args.b)

pub loop-bit-preserved : goal.loop-bit-preserved
loop-bit-preserved c =
    let mask = and_mask c.loop-bit.rest 1 in
    elim c.if-rest-eq1.branch [
      | then-rest-eq1 w ↦
          let set : c.loop-bit.rest % 2 ≡ 1 = cc (mask, w.if-rest-eq1.true) in
          cc (product_low_set c.loop-bit._bit c.loop-bit.sum c.loop-bit.shifted c.loop-bit.rest c.loop-bit-test.true set, w.sum-is, c.xtimes-shifted.ensures, c.loop-bit.invariant)
      | else-rest-eq1 w ↦
          let clear : c.loop-bit.rest % 2 ≡ 0 = omega (arith, mask, w.if-rest-eq1.false) in
          cc (product_low_clear c.loop-bit._bit c.loop-bit.sum c.loop-bit.shifted c.loop-bit.rest c.loop-bit-test.true clear, w.sum-is, c.xtimes-shifted.ensures, c.loop-bit.invariant)
    ]

pub returns : goal.returns
unfolding product
returns c = sym (product_low_none c.loop-bit._bit c.loop-bit.sum c.loop-bit.shifted c.loop-bit.rest c.loop-bit-test.false) ∙ c.loop-bit.invariant
