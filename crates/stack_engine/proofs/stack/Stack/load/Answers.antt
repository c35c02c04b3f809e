use Rattle.std.proofs.Common.{rules}
use Rattle.stack_engine.proofs.CachedLemmas.{cached-fresh}
use Rattle.stack_engine.proofs.stack.Stack.load.Goals as goal

pub returns-else-is_ok-clause-refused : goal.returns-else-is_ok-clause-refused
returns-else-is_ok-clause-refused g c = λ r e. rw (← c.self.view_is) (c.load-outcome.ensures.refused r e)

pub invariant_of-self : goal.invariant_of-self
invariant_of-self g c = record { sound = search rules; cached = cached-fresh _ _ c.start_over.ensures }
