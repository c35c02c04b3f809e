use Rattle.stack_lines.proofs.lemmas.StandingLemmas.{bit_or-at}
use Rattle.stack_lines.proofs.leaf_set.LeafSet.union.Goals as goal

pub returns-then-self-clause-leaves : goal.returns-then-self-clause-leaves
returns-then-self-clause-leaves c = λ d. bit_or-at c.args.self.bits c.args.other.bits d

pub returns-else-self-clause-leaves : goal.returns-else-self-clause-leaves
returns-else-self-clause-leaves c = λ d. bit_or-at c.args.self.bits c.args.other.bits d
