use Rattle.std.proofs.Common.{sym, ◌∙◌, arith}
use Rattle.stack_loader.proofs.ClosureLemmas.{joins_none, joins_written, joins_skipped}
use Rattle.stack_loader.proofs.cycles.join.Goals as goal
use Rattle.stack_loader.proofs.cycles.join.Goals.{then-contains, else-contains}

pub loop-set-init : goal.loop-set-init
loop-set-init c = joins_none c.args.sets.now c.args.k

pub loop-set-preserved : goal.loop-set-preserved
loop-set-preserved c = elim c.if-contains.branch [
  | then-contains w ↦ rw w.sets-is (joins_written c.args.sets.now c.loop-set.sets c.args.k c.loop-set.set-index w.union.result (omega (arith, c.loop-set-test.true, c.loop-set.auto.sets)) (sym c.contains.ensures ∙ w.if-contains.true) w.union.ensures c.loop-set.invariant)
  | else-contains w ↦ rw w.sets-is (joins_skipped c.args.sets.now c.loop-set.sets c.args.k c.loop-set.set-index (sym c.contains.ensures ∙ w.if-contains.false) c.loop-set.invariant)
]

pub returns : goal.returns
returns c = λ d e low. c.loop-set.invariant.done d e (omega (arith, low, c.loop-set-test.false))
