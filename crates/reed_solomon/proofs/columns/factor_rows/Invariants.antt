use Rattle.reed_solomon.specs.Factors.{AreRows}
use Rattle.reed_solomon.proofs.columns.factor_rows.Given as goal

abbrev pub invariant-loop-place : goal.invariant-loop-place
invariant-loop-place l = AreRows l.lost l.rows.items l.place-index
