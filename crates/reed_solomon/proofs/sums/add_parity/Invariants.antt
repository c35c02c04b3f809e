use Rattle.std.proofs.Common.{◌≡◌, ◌+◌, ◌*◌}
use Rattle.std.specs.Prelude.{slice_index}
use Rattle.reed_solomon.specs.Field.{total}
use Rattle.reed_solomon.specs.Sums.{part_sum}
use Rattle.reed_solomon.proofs.ColumnLemmas.{AreAdded}
use Rattle.reed_solomon.proofs.sums.add_parity.Given as goal

abbrev pub invariant-loop-c : goal.invariant-loop-c
invariant-loop-c l = AreAdded l.fn.sums l.sums (part_sum l.count l.parity) l.c

abbrev pub invariant-loop-k : goal.invariant-loop-k
invariant-loop-k l = l.sum ≡ total (λ k. slice_index l.parity (l.c * l.count + k)) l.k
