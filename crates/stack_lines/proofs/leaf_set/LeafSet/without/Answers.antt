use Rattle.stack_lines.proofs.lemmas.StandingLemmas.{bit_clear-at}
use Rattle.stack_lines.proofs.leaf_set.LeafSet.without.Goals as goal

pub returns : goal.returns
returns c = λ e small. bit_clear-at c.args.self.bits c.args.leaf e c.requires small
