use Rattle.stack_config.proofs.EmptyLemmas.{empty-loaded}
use Rattle.stack_config.proofs.config.Config.new.Goals as goal

pub invariant_of-result : goal.invariant_of-result
invariant_of-result c = rw c.new.ensures.items (record { loaded = empty-loaded c.args.leaves.items c.requires; facts = c.none.ensures c.args.leaves.items })
