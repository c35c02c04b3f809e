use Rattle.std.proofs.Common.{◌≡◌, ◌≤◌, ◌<◌, ℕ, get_or, bit_xor}
use Rattle.reed_solomon.specs.Field.{field_product}
use Rattle.reed_solomon.proofs.products.Products.add_to.Given as goal

-- the bytes so far are summed up, and the others are as they were
abbrev pub invariant-loop-k : goal.invariant-loop-k
invariant-loop-k l = record {
  added : (j : ℕ) → j < l.k → get_or l.sum j 0 ≡ bit_xor (get_or l.fn.sum j 0) (field_product l.self (get_or l.bytes j 0));
  same : (j : ℕ) → l.k ≤ j → get_or l.sum j 0 ≡ get_or l.fn.sum j 0;
}
