use Rattle.allocation.specs.declared.seal.Seal.TheVariants.{Library}
use Rattle.allocation.specs.Refusal.{library-refused}
use Rattle.allocation.proofs.out_of_memory.refused.Goals as goal

pub invariant_of-result : goal.invariant_of-result
invariant_of-result c = record { refused = library-refused c.args.asked Library }
