use Rattle.std.proofs.Common.{◌≡◌, ◌-◌, bit_xor}
use Rattle.aes_block.specs.Field.{product_low}
use Rattle.aes_block.proofs.field.multiply.Given as goal

-- what is summed, and the product that is left, make the product
abbrev pub invariant-loop-bit : goal.invariant-loop-bit
invariant-loop-bit l = bit_xor l.sum (product_low (8 - l._bit) l.shifted l.rest) ≡ product_low 8 l.fn.a l.fn.b
