use Rattle.reed_solomon.proofs.ColumnLemmas.{ArePlaces}
use Rattle.reed_solomon.proofs.columns.parity_products.Given as goal

abbrev pub invariant-loop-place : goal.invariant-loop-place
invariant-loop-place l = ArePlaces l.parity l.places.items l.place
