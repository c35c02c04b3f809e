use Rattle.std.proofs.Common.{◌+◌, take, subst, sym}
use Rattle.std.proofs.lemmas.List.{take_all}
use Rattle.tree_repair.specs.ParitySearches.{AreCovered}
use Rattle.tree_repair.proofs.TryLemmas.{covered-next}
use Rattle.tree_repair.proofs.covered.covered_of.Goals as goal

pub covered-preserved : goal.covered-preserved
covered-preserved c =
    subst (λ xs. AreCovered c.args.repair.now.shape c.args.layout.now (take (c.covered.bad-index + 1) c.args.blocks.now) xs) (sym c.in_ok-push_some.ensures.ok)
    (covered-next c.args.repair.now.shape c.args.layout.now c.args.blocks.now c.covered.bad-index _ c.covered.covered.items c.covered_at-index.result c.covered-test.true c.covered.invariant c.covered_at-index.ensures)

pub returns-clause-ok : goal.returns-clause-ok
returns-clause-ok c =
    subst (λ xs. AreCovered c.args.repair.now.shape c.args.layout.now xs c.covered.covered.items) (take_all c.covered.bad-index c.args.blocks.now c.covered-test.false) c.covered.invariant
