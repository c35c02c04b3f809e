use Rattle.std.proofs.Common.{◌≡◌, ◌+◌, ◌*◌, length}
use Rattle.std.specs.Prelude.{slice_index}
use Rattle.reed_solomon.specs.Field.{field_product, total}
use Rattle.reed_solomon.specs.Sums.{part_combination}
use Rattle.reed_solomon.proofs.ColumnLemmas.{AreAdded}
use Rattle.reed_solomon.proofs.sums.add_parity_products.Given as goal

abbrev pub invariant-loop-c : goal.invariant-loop-c
invariant-loop-c l = AreAdded l.fn.sums l.sums (part_combination (slice_index l.factors) (length l.factors) l.parity) l.c

abbrev pub invariant-loop-k : goal.invariant-loop-k
invariant-loop-k l = l.sum ≡ total (λ k. field_product (slice_index l.factors k) (slice_index l.parity (l.c * length l.factors + k))) l.k
