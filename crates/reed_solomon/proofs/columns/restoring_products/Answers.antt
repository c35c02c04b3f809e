use Rattle.std.proofs.Common.{arith}
use Rattle.reed_solomon.proofs.ColumnLemmas.{products-laid_out}
use Rattle.reed_solomon.proofs.columns.restoring_products.Goals as goal

pub returns-clause-ok : goal.returns-clause-ok
returns-clause-ok c =
    products-laid_out c.args.lost.now c.in_ok-rows.rows.items c.loop-at.products.items c.loop-at.at c.requires.in_word (omega (arith, c.loop-at-test.false, c.loop-at.auto.at-end)) c.in_ok-rows.ensures.ok c.loop-at.invariant
