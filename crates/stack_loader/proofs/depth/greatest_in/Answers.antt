use Rattle.std.proofs.Common.{sym, ◌∙◌, refl, get_or}
use Rattle.stack_loader.specs.Depths.{greatest_in}
use Rattle.stack_loader.proofs.lemmas.DepthLemmas.{greatest_in_taken, greatest_in_skipped}
use Rattle.stack_loader.proofs.GreatestLemmas.{ord_max-nat}
use Rattle.stack_loader.proofs.depth.greatest_in.Goals as goal
use Rattle.stack_loader.proofs.depth.greatest_in.Goals.{then-contains, else-contains}

pub loop-d-preserved : goal.loop-d-preserved
loop-d-preserved c = elim c.if-contains.branch [
  | then-contains w ↦ rw (w.greatest-is, w.max-greatest.ensures, ord_max-nat) (greatest_in_taken c.args.set c.args.values.now c.loop-d.d c.loop-d.greatest (get_or c.args.values.now c.loop-d.d 0) (greatest_in c.args.set c.args.values.now) c.loop-d-test.true (sym c.contains.ensures ∙ w.if-contains.true) refl c.loop-d.invariant)
  | else-contains w ↦ rw w.greatest-is (greatest_in_skipped c.args.set c.args.values.now c.loop-d.d c.loop-d.greatest (greatest_in c.args.set c.args.values.now) c.loop-d-test.true (sym c.contains.ensures ∙ w.if-contains.false) c.loop-d.invariant)
]
