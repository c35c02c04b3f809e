use Rattle.std.proofs.Common.{◌+◌, sym, subst}
use Rattle.std.specs.Prelude.{slice_index}
use Rattle.reed_solomon.specs.Factors.{AreRows}
use Rattle.reed_solomon.proofs.ColumnLemmas.{found-factors, rows-more}
use Rattle.reed_solomon.proofs.columns.factor_rows.Goals as goal

pub loop-place-preserved : goal.loop-place-preserved
loop-place-preserved c =
    let lost = c.args.lost.now in
    let n = c.loop-place.place-index in
    let row = c.factors.result in
    let found = found-factors lost row n c.loop-place-test.true c.factors.ensures.restore c.factors.ensures.skip_lost in
    subst (λ xs. AreRows lost xs (n + 1)) (sym c.in_ok-append.ensures.ok)
    (rows-more lost c.loop-place.rows.items row n c.requires c.factors.ensures.len found c.loop-place.invariant)
