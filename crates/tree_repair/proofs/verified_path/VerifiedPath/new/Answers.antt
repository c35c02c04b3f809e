use Rattle.std.proofs.Common.{arith}
use Rattle.tree_repair.proofs.VerifiedPathLemmas.{leads-top}
use Rattle.tree_repair.proofs.verified_path.VerifiedPath.new.Goals as goal

pub invariant_of-result-clause-leads : goal.invariant_of-result-clause-leads
invariant_of-result-clause-leads c = leads-top c.in_ok-path.path 0 c.levels-height.result (omega (arith, c.levels-height.ensures))
