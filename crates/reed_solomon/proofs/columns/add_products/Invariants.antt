use Rattle.std.proofs.Common.{◌+◌, ◌*◌, ◌/◌, ◌%◌, length}
use Rattle.std.specs.Prelude.{slice_index}
use Rattle.reed_solomon.specs.Field.{field_product}
use Rattle.reed_solomon.proofs.ColumnLemmas.{AreAdded}
use Rattle.reed_solomon.proofs.columns.add_products.Given as goal

abbrev pub invariant-loop-c : goal.invariant-loop-c
invariant-loop-c l = AreAdded l.fn.sums l.sums (λ m. field_product (slice_index l.products (m % length l.products)) (slice_index l.bytes (m / length l.products))) (l.c * length l.products)

abbrev pub invariant-loop-k : goal.invariant-loop-k
invariant-loop-k l = AreAdded l.fn.sums l.sums (λ m. field_product (slice_index l.products (m % length l.products)) (slice_index l.bytes (m / length l.products))) (l.c * length l.products + l.k)
