use Rattle.std.proofs.Common.{◌∙◌, sym, arith}
use Rattle.stack_recovery.proofs.StretchLemmas.{stretch-ends, stretch-next}
use Rattle.stack_recovery.proofs.stretch.next_stretch.Goals as goal

pub runs-preserved : goal.runs-preserved
runs-preserved c = record {
  marks = stretch-next c.runs.ahead.first c.runs.ahead.rest.now _ (sym c.extends.ensures ∙ c.runs-test.true) ∙ c.runs.invariant.marks;
  some = omega (arith, c.runs.invariant.some);
}

pub returns-clause-longest : goal.returns-clause-longest
returns-clause-longest c = stretch-ends c.runs.ahead.first c.runs.ahead.rest.now (sym c.extends.ensures ∙ c.runs-test.false)
