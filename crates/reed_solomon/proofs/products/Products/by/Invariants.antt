use Rattle.std.proofs.Common.{◌≡◌, ◌<◌, ℕ, length, get_or}
use Rattle.reed_solomon.specs.Field.{field_product}
use Rattle.reed_solomon.proofs.products.Products.by.Given as goal

-- the products of the bytes so far
abbrev pub invariant-loop-byte : goal.invariant-loop-byte
invariant-loop-byte l = (length l.of ≡ 256) × ((b : ℕ) → b < l.byte → get_or l.of b 0 ≡ field_product l.factor b)
