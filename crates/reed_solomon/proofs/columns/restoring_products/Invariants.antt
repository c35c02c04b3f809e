use Rattle.std.proofs.Common.{length}
use Rattle.reed_solomon.proofs.ColumnLemmas.{AreLaidOut}
use Rattle.reed_solomon.proofs.columns.restoring_products.Given as goal

abbrev pub invariant-loop-at : goal.invariant-loop-at
invariant-loop-at l = AreLaidOut (length l.lost) l.rows.items l.products.items l.at
