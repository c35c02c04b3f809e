use Rattle.stack_lines.proofs.lemmas.StandingLemmas.{bit_set-at}
use Rattle.stack_lines.proofs.leaf_set.LeafSet.with.Goals as goal

pub returns-clause-leaves : goal.returns-clause-leaves
returns-clause-leaves c = λ e. bit_set-at c.args.self.bits c.args.leaf e c.requires
