use Rattle.std.proofs.Common.{rules}
use Rattle.stack_engine.proofs.CachedLemmas.{cached-fresh}
use Rattle.stack_engine.proofs.stack.Stack.remove.Goals as goal

pub invariant_of-self : goal.invariant_of-self
invariant_of-self g c = record { sound = search rules; cached = cached-fresh _ _ c.start_over.ensures }
